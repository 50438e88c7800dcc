use Rattle.rr_shared_ports.proofs.Words.{Initialises, RequestIsComplete, at, is_tried, stepped_on, initialised_or_not, rules}
use Rattle.rr_shared_ports.proofs.writing.Claimed+N+RequestMutUninit+QB.assume_init.Goals as goal

-- it is the call of the port
pub returns : goal.returns
returns g c =
    let made = c.tried.ensures in
    let call = made.4 in
    (made.0, made.1, made.2, made.3, at (λ old n result new. Initialises RequestIsComplete old n result new) call.1.5 call.1.4 (is_tried call.0 c.tried.result call.2) call.1.6 call.1.3.0)

-- and a step
pub tried-requires-clause-tries : goal.tried-requires-clause-tries
tried-requires-clause-tries g c κs within state returned after call =
    let by = call.3.0 in
    (stepped_on g.K.BackpressureFn.action g.QH.Default.is_default g.PH.Default.is_default call.5 call.4 call.6 call.3.1.0 (initialised_or_not g.K.BackpressureFn.action g.QH.Default.is_default g.PH.Default.is_default RequestIsComplete call.1.now call.2.now call.0 returned by), search rules, search rules)

use Rattle.std.proofs.Common.{◌∷◌}
use Rattle.rr_shared_ports.proofs.Words.{rules, [], SendsPending, at, is_made, pending_sent, stepped_on, Keeps}
use Rattle.rr_shared_ports.proofs.sending.Claimed+N+RequestMut+QB.send.Goals as goal

-- it is the call of the port
pub returns : goal.returns
returns g c =
    let made = c.turned.ensures in
    let call = made.4 in
    let by : SendsPending g.K.BackpressureFn.action call.1.1.now call.1.0 call.0 call.1.2.now = search rules in
    (made.0, made.1, made.2, made.3, at (λ old n result new. SendsPending g.K.BackpressureFn.action old n result new) call.1.5 call.1.4 (is_made call.0 c.turned.result call.2) call.1.6 by)

-- and a step
pub turned-requires-clause-exchanges : goal.turned-requires-clause-exchanges
turned-requires-clause-exchanges g c κs within state returned after call =
    let by : SendsPending g.K.BackpressureFn.action call.1.now call.0 returned call.2.now = search rules in
    let keeps : Keeps (call.0 ∷ []) call.1.now call.2.now = search rules in
    (stepped_on g.K.BackpressureFn.action g.QH.Default.is_default g.PH.Default.is_default call.5 call.4 call.6 keeps (pending_sent g.K.BackpressureFn.action g.QH.Default.is_default g.PH.Default.is_default call.1.now call.2.now call.0 returned by), search rules, search rules)

use Rattle.rr_shared_ports.proofs.Words.{rules, Finishes, at, is_spent, finished, stepped_on}
use Rattle.rr_shared_ports.proofs.typed.exchange.Claimed+N+PendingResponse+QB.finish.Goals as goal

-- it is the call of the port
pub returns : goal.returns
returns g c =
    let made = c.spent.ensures in
    let call = made.4 in
    (made.0, made.1, made.2, made.3, at (λ old n result new. Finishes old n result new) call.1.5 call.1.4 (is_spent call.0 c.spent.result call.2) call.1.6 call.1.3.0)

-- and a step
pub spent-requires-clause-spends : goal.spent-requires-clause-spends
spent-requires-clause-spends g c κs within state returned after call =
    (stepped_on g.K.BackpressureFn.action g.QH.Default.is_default g.PH.Default.is_default call.5 call.4 call.6 call.3.1.0 (finished g.K.BackpressureFn.action g.QH.Default.is_default g.PH.Default.is_default call.1.now call.2.now call.0 returned call.3.0), search rules)

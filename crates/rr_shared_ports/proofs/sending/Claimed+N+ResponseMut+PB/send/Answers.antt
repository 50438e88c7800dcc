use Rattle.std.proofs.Common.{◌∷◌}
use Rattle.rr_shared_ports.proofs.Words.{rules, [], SendsResponse, at_state, response_sent, stepped_on, Keeps}
use Rattle.rr_shared_ports.proofs.sending.Claimed+N+ResponseMut+PB.send.Goals as goal

-- it is the call of the port
pub returns : goal.returns
returns g c =
    let made = c.ended.ensures in
    let call = made.4 in
    let by : SendsResponse g.K.BackpressureFn.action call.1.now call.0 c.ended.result call.2.now = search rules in
    (made.0, made.1, made.2, made.3, at_state (λ old n new. SendsResponse g.K.BackpressureFn.action old n c.ended.result new) call.5 call.4 call.6 by)

-- and a step
pub ended-requires-clause-keeps : goal.ended-requires-clause-keeps
ended-requires-clause-keeps g c κs within state returned after call =
    let by : SendsResponse g.K.BackpressureFn.action call.1.now call.0 returned call.2.now = search rules in
    let keeps : Keeps (call.0 ∷ []) call.1.now call.2.now = search rules in
    stepped_on g.K.BackpressureFn.action g.QH.Default.is_default g.PH.Default.is_default call.5 call.4 call.6 keeps (response_sent g.K.BackpressureFn.action g.QH.Default.is_default g.PH.Default.is_default call.1.now call.2.now call.0 returned by)

use Rattle.rr_shared_ports.proofs.Words.{rules, ReceivesOrEnds, at, is_received, received_or_ended, stepped}
use Rattle.rr_shared_ports.proofs.waiting.Claimed+N+PendingResponse+QB.receive_or_end.Goals as goal

-- it is the call of the port
pub returns : goal.returns
returns g c =
    let made = c.received.ensures in
    let call = made.4 in
    (made.0, made.1, made.2, made.3, at (λ old n result new. ReceivesOrEnds old n result new) call.1.shows c.handle-handle.ensures (is_received call.0 c.received.result call.2) call.1.leaves call.1.met.0)

-- and a step
pub received-requires-clause-receives : goal.received-requires-clause-receives
received-requires-clause-receives g c κs within state returned after call =
    (stepped g.K.BackpressureFn.action g.QH.Default.is_default g.PH.Default.is_default call.shows call.leaves call.met.1.0 (received_or_ended g.K.BackpressureFn.action g.QH.Default.is_default g.PH.Default.is_default call.shown.now call.left.now c.handle-handle.result.now returned call.met.0), search rules, search rules)

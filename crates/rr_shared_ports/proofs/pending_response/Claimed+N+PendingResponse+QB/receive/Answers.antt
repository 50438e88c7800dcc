use Rattle.rr_shared_ports.proofs.Words.{rules, [], ReceivesResponse, at, is_received, response_received, stepped, Keeps}
use Rattle.rr_shared_ports.proofs.pending_response.Claimed+N+PendingResponse+QB.receive.Goals as goal

-- it is the call of the port
pub returns : goal.returns
returns g c =
    let made = c.received.ensures in
    let call = made.4 in
    let by : ReceivesResponse call.1.shown.now c.handle-handle.result.now call.0 call.1.left.now = search rules in
    (made.0, made.1, made.2, made.3, at (λ old n result new. ReceivesResponse old n result new) call.1.shows c.handle-handle.ensures (is_received call.0 c.received.result call.2) call.1.leaves by)

-- and a step
pub received-requires-clause-receives : goal.received-requires-clause-receives
received-requires-clause-receives g c κs within state returned after call =
    let by : ReceivesResponse call.shown.now c.handle-handle.result.now returned call.left.now = search rules in
    let keeps : Keeps [] call.shown.now call.left.now = search rules in
    (stepped g.K.BackpressureFn.action g.QH.Default.is_default g.PH.Default.is_default call.shows call.leaves keeps (response_received g.K.BackpressureFn.action g.QH.Default.is_default g.PH.Default.is_default call.shown.now call.left.now c.handle-handle.result.now returned by), search rules, search rules)

use Rattle.rr_shared_ports.proofs.Words.{rules, [], ReceivesCopy, at_state, response_copied, stepped, Keeps}
use Rattle.rr_shared_ports.proofs.typed.receiving.Claimed+N+PendingResponse+QB.receive_copy.Goals as goal

-- it is the call of the port
pub returns : goal.returns
returns g c =
    let made = c.changed.ensures in
    let call = made.4 in
    let by : ReceivesCopy call.shown.now c.handle-handle.result.now c.changed.result call.left.now = search rules in
    (made.0, made.1, made.2, made.3, at_state (λ old n new. ReceivesCopy old n c.changed.result new) call.shows c.handle-handle.ensures call.leaves by)

-- and a step
pub changed-requires-clause-keeps : goal.changed-requires-clause-keeps
changed-requires-clause-keeps g c κs within state returned after call =
    let by : ReceivesCopy call.shown.now c.handle-handle.result.now returned call.left.now = search rules in
    let keeps : Keeps [] call.shown.now call.left.now = search rules in
    stepped g.K.BackpressureFn.action g.QH.Default.is_default g.PH.Default.is_default call.shows call.leaves keeps (response_copied g.K.BackpressureFn.action g.QH.Default.is_default g.PH.Default.is_default call.shown.now call.left.now c.handle-handle.result.now returned by)

use Rattle.std.proofs.Common.{◌^◌, ◌-◌}
use Rattle.rr_shared_ports.proofs.Words.{Drains, FoldsOne, ReceivesCopy, at_state, stepped, responses_drained}
use Rattle.rr_shared_ports.proofs.typed.receiving.Claimed+N+PendingResponse+QB.fold_responses.Goals as goal

-- it is the call of the port
pub returns : goal.returns
returns g c =
    let made = c.changed.ensures in
    let call = made.4 in
    (made.0, made.1, made.2, made.3, at_state (λ old n new. Drains (λ s received t. ReceivesCopy s n received t) (FoldsOne g.F.FnMut) (2 ^ 64 - 1) (c.args.f, c.args.init) old c.changed.result new) call.shows c.handle-handle.ensures call.leaves call.met.0)

-- and a step
pub changed-requires-clause-keeps : goal.changed-requires-clause-keeps
changed-requires-clause-keeps g c κs within state returned after call =
    let by = call.met.0 in
    stepped g.K.BackpressureFn.action g.QH.Default.is_default g.PH.Default.is_default call.shows call.leaves call.met.1 (responses_drained g.K.BackpressureFn.action g.QH.Default.is_default g.PH.Default.is_default c.handle-handle.result.now (FoldsOne g.F.FnMut) (2 ^ 64 - 1) (c.args.f, c.args.init) call.shown.now call.left.now returned by)

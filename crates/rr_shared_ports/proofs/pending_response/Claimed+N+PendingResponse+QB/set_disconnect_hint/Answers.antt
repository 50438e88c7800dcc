use Rattle.std.proofs.Common.{◌≡◌}
use Rattle.rr_shared_ports.proofs.Words.{with_hint, with_changed, at_state, hinted, stepped}
use Rattle.rr_shared_ports.proofs.pending_response.Claimed+N+PendingResponse+QB.set_disconnect_hint.Goals as goal

-- it is the call of the port
pub returns : goal.returns
returns g c =
    let made = c.changed.ensures in
    let call = made.4 in
    (made.0, made.1, made.2, made.3, at_state (λ old n new. new ≡ with_changed old n with_hint) call.shows c.handle-handle.ensures call.leaves call.met.0)

-- and a step
pub changed-requires-clause-keeps : goal.changed-requires-clause-keeps
changed-requires-clause-keeps g c κs within state returned after call =
    let by = call.met.0 in
    stepped g.K.BackpressureFn.action g.QH.Default.is_default g.PH.Default.is_default call.shows call.leaves call.met.1 (hinted g.K.BackpressureFn.action g.QH.Default.is_default g.PH.Default.is_default call.shown.now call.left.now c.handle-handle.result.now by)

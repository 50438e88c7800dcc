use Rattle.std.proofs.Common.{◌≡◌}
use Rattle.rr_shared_ports.proofs.Words.{FnOnceReturnsAtMut, UpdatesRequest, with_user_header, at_state, stepped, request_updated, refl}
use Rattle.rr_shared_ports.proofs.lend.Claimed+N+RequestMutUninit+QB.update_user_header.Goals as goal

-- it is the call of the port
pub returns : goal.returns
returns g c =
    let made = c.changed.ensures in
    let call = made.4 in
    (made.0, made.1, made.2, made.3, at_state (λ old n new. UpdatesRequest (λ c header. c.user_header ≡ header) with_user_header (FnOnceReturnsAtMut g.F.FnOnce c.args.f) old new n) call.shows c.handle-handle.ensures call.leaves call.met.0)

-- and a step
pub changed-requires-clause-keeps : goal.changed-requires-clause-keeps
changed-requires-clause-keeps g c κs within state returned after call =
    let by = call.met.0 in
    stepped g.K.BackpressureFn.action g.QH.Default.is_default g.PH.Default.is_default call.shows call.leaves call.met.1 (request_updated g.K.BackpressureFn.action g.QH.Default.is_default g.PH.Default.is_default (λ c header. c.user_header ≡ header) with_user_header (λ header content. refl) (FnOnceReturnsAtMut g.F.FnOnce c.args.f) call.shown.now call.left.now c.handle-handle.result.now by)

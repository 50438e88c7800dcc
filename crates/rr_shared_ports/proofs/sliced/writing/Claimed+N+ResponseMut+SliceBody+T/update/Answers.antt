use Rattle.std.proofs.Common.{◌≡◌}
use Rattle.rr_shared_ports.proofs.Words.{FnOnceReturnsAtMut, UpdatesResponse, refilled, at_state, stepped_on, response_updated, rules, refl}
use Rattle.rr_shared_ports.proofs.sliced.writing.Claimed+N+ResponseMut+SliceBody+T.update.Goals as goal

-- it is the call of the port
pub returns : goal.returns
returns g c =
    let made = c.rewritten.ensures in
    let call = made.4 in
    (made.0, made.1, made.2, made.3, at_state (λ old n new. UpdatesResponse (λ c items. c.elements ≡ items) refilled (FnOnceReturnsAtMut g.F.FnOnce c.args.f) old new n) call.shows c.handle-handle.ensures call.leaves call.met.0)

-- and a step
pub rewritten-requires-clause-rewrites : goal.rewritten-requires-clause-rewrites
rewritten-requires-clause-rewrites g c κs within state returned after call =
    let by = call.met.0 in
    (stepped_on g.K.BackpressureFn.action g.QH.Default.is_default g.PH.Default.is_default call.shows c.handle-handle.ensures call.leaves call.met.1.0 (response_updated g.K.BackpressureFn.action g.QH.Default.is_default g.PH.Default.is_default (λ c items. c.elements ≡ items) refilled (λ items content. refl) (FnOnceReturnsAtMut g.F.FnOnce c.args.f) call.shown.now call.left.now c.handle-handle.result.now by), search rules)

use Rattle.std.proofs.Common.{◌≡◌, ◌∷◌}
use Rattle.rr_shared_ports.proofs.Words.{[], FnOnceReturnsAtMut, UpdatesRequest, with_elements, at_state, stepped_on, request_updated, rules, refl}
use Rattle.rr_shared_ports.proofs.typed.writing.Claimed+N+RequestMut+Option+T.update.Goals as goal

-- it is the call of the port
pub returns : goal.returns
returns g c =
    let made = c.rewritten.ensures in
    let call = made.4 in
    (made.0, made.1, made.2, made.3, at_state (λ old n new. UpdatesRequest (λ c value. c.elements ≡ value ∷ []) (λ value. with_elements (value ∷ [])) (FnOnceReturnsAtMut g.F.FnOnce c.args.f) old new n) call.shows c.handle-handle.ensures call.leaves call.met.0)

-- and a step
pub rewritten-requires-clause-rewrites : goal.rewritten-requires-clause-rewrites
rewritten-requires-clause-rewrites g c κs within state returned after call =
    let by = call.met.0 in
    (stepped_on g.K.BackpressureFn.action g.QH.Default.is_default g.PH.Default.is_default call.shows c.handle-handle.ensures call.leaves call.met.1.0 (request_updated g.K.BackpressureFn.action g.QH.Default.is_default g.PH.Default.is_default (λ c value. c.elements ≡ value ∷ []) (λ value. with_elements (value ∷ [])) (λ value content. refl) (FnOnceReturnsAtMut g.F.FnOnce c.args.f) call.shown.now call.left.now c.handle-handle.result.now by), search rules)

use Rattle.std.proofs.Common.{◌≡◌, ◌∷◌}
use Rattle.rr_shared_ports.proofs.Words.{[], IsSomeAnd, option_and_then, response_in, after_release, handle_at, at_state, released, stepped_on}
use Rattle.rr_shared_ports.proofs.typed.response.Claimed+N+Response+Option+T.into_payload.Goals as goal

-- it is the call of the port
pub returns : goal.returns
returns g c =
    let made = c.ended.ensures in
    let call = made.4 in
    (made.0, made.1, made.2, made.3, at_state (λ old n new. (new ≡ after_release old n) × IsSomeAnd (option_and_then response_in (handle_at old n)) (λ m. m.content.elements ≡ c.ended.result ∷ [])) call.5 call.4 call.6 call.3.0)

-- and a step
pub ended-requires-clause-keeps : goal.ended-requires-clause-keeps
ended-requires-clause-keeps g c κs within state returned after call =
    let by = call.3.0 in
    stepped_on g.K.BackpressureFn.action g.QH.Default.is_default g.PH.Default.is_default call.5 call.4 call.6 call.3.1 (released g.K.BackpressureFn.action g.QH.Default.is_default g.PH.Default.is_default call.1.now call.2.now call.0 by.0)

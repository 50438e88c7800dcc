use Rattle.std.proofs.Common.{◌≡◌, ◌∷◌}
use Rattle.rr_shared_ports.proofs.Words.{rules, [], IsSomeAnd, option_and_then, response_in, handle_at, at_state}
use Rattle.rr_shared_ports.proofs.typed.response.Claimed+N+Response+Option+T.payload_copy.Goals as goal

-- it is the call of the port
pub returns : goal.returns
returns g c =
    let made = c.looked.ensures in
    let call = made.4.1 in
    let by : IsSomeAnd (option_and_then response_in (handle_at call.0.now c.handle-handle.result.now)) (λ m. m.content.elements ≡ c.looked.result ∷ []) = search rules in
    (made.0, made.1, made.2, made.3, (made.4.0, at_state (λ old n new. IsSomeAnd (option_and_then response_in (handle_at old n)) (λ m. m.content.elements ≡ c.looked.result ∷ [])) call.2 c.handle-handle.ensures call.2 by))

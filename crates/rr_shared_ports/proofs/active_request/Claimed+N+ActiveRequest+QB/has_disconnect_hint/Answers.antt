use Rattle.std.proofs.Common.{◌≡◌}
use Rattle.rr_shared_ports.proofs.Words.{IsSomeAnd, has_disconnect_hint, active_at, at_state}
use Rattle.rr_shared_ports.proofs.active_request.Claimed+N+ActiveRequest+QB.has_disconnect_hint.Goals as goal

-- it is the call of the port
pub returns : goal.returns
returns g c =
    let made = c.looked.ensures in
    let call = made.4.1 in
    (made.0, made.1, made.2, made.3, (made.4.0, at_state (λ old n new. IsSomeAnd (active_at old n) (λ active. c.looked.result ≡ has_disconnect_hint old active.message.number)) call.2 c.handle-handle.ensures call.2 call.1))

use Rattle.std.proofs.Common.{◌≡◌}
use Rattle.rr_shared_ports.proofs.Words.{IsSomeAnd, length, nat_lt, pending_at, at_state}
use Rattle.rr_shared_ports.proofs.pending_response.Claimed+N+PendingResponse+QB.is_connected.Goals as goal

-- it is the call of the port
pub returns : goal.returns
returns g c =
    let made = c.looked.ensures in
    let call = made.4.1 in
    (made.0, made.1, made.2, made.3, (made.4.0, at_state (λ old n new. IsSomeAnd (pending_at old n) (λ pending. c.looked.result ≡ nat_lt 0 (length pending.servers))) call.2 c.handle-handle.ensures call.2 call.1))

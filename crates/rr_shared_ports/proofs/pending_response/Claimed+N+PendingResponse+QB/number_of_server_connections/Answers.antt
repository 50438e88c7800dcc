use Rattle.std.proofs.Common.{◌≡◌}
use Rattle.rr_shared_ports.proofs.Words.{IsSomeAnd, pending_at, at_state}
use Rattle.rr_shared_ports.proofs.pending_response.Claimed+N+PendingResponse+QB.number_of_server_connections.Goals as goal

-- it is the call of the port
pub returns : goal.returns
returns g c =
    let made = c.looked.ensures in
    let call = made.4.1 in
    (made.0, made.1, made.2, made.3, (made.4.0, at_state (λ old n new. IsSomeAnd (pending_at old n) (λ pending. c.looked.result ≡ pending.connections)) call.2 c.handle-handle.ensures call.2 call.1))

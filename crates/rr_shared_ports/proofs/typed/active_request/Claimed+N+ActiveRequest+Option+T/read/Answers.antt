use Rattle.std.proofs.Common.{◌≡◌, ◌∷◌}
use Rattle.rr_shared_ports.proofs.Words.{[], IsSomeAnd, option_and_then, FnOnceReturnsAt, request_in, handle_at, at_state}
use Rattle.rr_shared_ports.proofs.typed.active_request.Claimed+N+ActiveRequest+Option+T.read.Goals as goal

-- it is the call of the port
pub returns : goal.returns
returns g c =
    let made = c.looked.ensures in
    let call = made.4.1 in
    let it = at_state (λ old n new. (value : g.row.T.Denot) × IsSomeAnd (option_and_then request_in (handle_at old n)) (λ m. m.content.elements ≡ value ∷ []) × FnOnceReturnsAt g.F.FnOnce c.args.f value c.looked.result) call.2 c.handle-handle.ensures call.2 call.1 in
    (made.0, made.1, made.2, made.3, (made.4.0, it.0, it.1, it.2))

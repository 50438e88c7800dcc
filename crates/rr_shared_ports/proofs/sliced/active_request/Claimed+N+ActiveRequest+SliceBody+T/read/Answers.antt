use Rattle.rr_shared_ports.proofs.Words.{IsSomeAnd, option_and_then, FnOnceReturnsAt, request_in, handle_at, at_state}
use Rattle.rr_shared_ports.proofs.sliced.active_request.Claimed+N+ActiveRequest+SliceBody+T.read.Goals as goal

-- it is the call of the port
pub returns : goal.returns
returns g c =
    let made = c.looked.ensures in
    let call = made.4.1 in
    (made.0, made.1, made.2, made.3, (made.4.0, at_state (λ old n new. IsSomeAnd (option_and_then request_in (handle_at old n)) (λ m. FnOnceReturnsAt g.F.FnOnce c.args.f m.content.elements c.looked.result)) call.2 c.handle-handle.ensures call.2 call.1))

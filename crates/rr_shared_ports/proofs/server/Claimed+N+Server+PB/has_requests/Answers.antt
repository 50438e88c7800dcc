use Rattle.std.proofs.Common.{◌↔◌}
use Rattle.rr_shared_ports.proofs.Words.{IfOk, IsTrue, HasRequests, at_state}
use Rattle.rr_shared_ports.proofs.server.Claimed+N+Server+PB.has_requests.Goals as goal

-- it is the call of the port
pub returns : goal.returns
returns g c =
    let made = c.looked.ensures in
    let call = made.4.1 in
    let it = at_state (λ old n new. IfOk c.looked.result (λ waits. IsTrue waits ↔ HasRequests old n)) call.2 c.handle-handle.ensures call.2 call.1.1 in
    (made.0, made.1, made.2, made.3, (made.4.0, call.1.0, it))

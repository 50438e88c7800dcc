use Rattle.std.proofs.Common.{◌≡◌}
use mathlib.Core.List.{IsPrefix}
use Rattle.rr_shared_ports.proofs.sending.Claimed+N+ResponseMut+PB.send_wait.Given as goal

-- the seat goes on from what it had seen
abbrev pub invariant-loop : goal.invariant-loop
invariant-loop g l =
    (goal.iterator-loop g).can_next l.iterator' × (goal.iterator-loop g).is_finite l.iterator'
    × (l.seat.0 ≡ l.fn.seat.0) × IsPrefix l.fn.seat.1 l.seat.1 × (l.response ≡ l.fn.self)

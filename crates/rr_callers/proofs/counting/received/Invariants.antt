use Rattle.std.proofs.Common.{◌≡◌, ◌-◌, []}
use Rattle.std.specs.List.{range_with_len}
use Rattle.rr_ports.specs.Facts.{Keeps}
use Rattle.rr_ports.specs.Queues.{Awaits}
use Rattle.rr_callers.specs.Singles.{singles}
use Rattle.rr_callers.proofs.counting.received.Given as goal

-- what numbers named they name still; the numbers so far came, and the others are queued
abbrev pub invariant-loop-received : goal.invariant-loop-received
invariant-loop-received l =
    Keeps [] l.fn.hub l.hub × (l.came.items ≡ range_with_len 0 l.received)
    × Awaits l.hub l.pending l.server (singles l.received (l.count - l.received))

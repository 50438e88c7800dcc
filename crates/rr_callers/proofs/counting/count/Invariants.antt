use Rattle.std.proofs.Common.{◌≤◌, ◌+◌, []}
use Rattle.rr_ports.specs.Facts.{Keeps, numbers_left}
use Rattle.rr_ports.specs.Queues.{Awaits}
use Rattle.rr_callers.specs.Singles.{singles}
use Rattle.rr_callers.proofs.counting.count.Given as goal

-- what numbers named they name still, the numbers so far are queued, and each took one of those that were left
abbrev pub invariant-loop-value : goal.invariant-loop-value
invariant-loop-value l =
    Keeps [] l.fn.hub l.hub × Awaits l.hub l.pending l.server (singles 0 l.value) × (numbers_left l.fn.hub ≤ numbers_left l.hub + l.value)

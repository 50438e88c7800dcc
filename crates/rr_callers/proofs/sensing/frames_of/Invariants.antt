use Rattle.std.proofs.Common.{◌≡◌, ◌≤◌, ◌+◌, []}
use Rattle.rr_ports.specs.Facts.{Keeps, numbers_left}
use Rattle.rr_ports.specs.Queues.{AwaitsNothing}
use Rattle.rr_callers.specs.Sensing.{extremes_over}
use Rattle.rr_callers.proofs.sensing.frames_of.Given as goal

-- what numbers named they name still, nothing is queued, the frames so far were read, and each took one of the numbers that were left
abbrev pub invariant-loop-time : goal.invariant-loop-time
invariant-loop-time l =
    Keeps [] l.fn.hub l.hub × AwaitsNothing l.hub l.pending × (l.came.items ≡ extremes_over l.channels l.time)
    × (numbers_left l.fn.hub ≤ numbers_left l.hub + l.time)

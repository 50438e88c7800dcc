use Rattle.std.proofs.Common.{◌≤◌}
use Rattle.std.proofs.Common.{[]}
use Rattle.rr_ports.specs.Facts.{Keeps}
use Rattle.rr_callers.proofs.streaming.take_turns.Given as goal

-- what numbers named they name still, and no more is wanted than at first
abbrev pub invariant-loop : goal.invariant-loop
invariant-loop l = Keeps [] l.fn.hub l.hub × (l.left ≤ l.wanted)

use Rattle.std.proofs.Common.{[]}
use Rattle.rr_ports.specs.Facts.{Keeps}
use Rattle.rr_callers.proofs.streaming.answer.Given as goal

-- what numbers named they name still
abbrev pub invariant-loop-value : goal.invariant-loop-value
invariant-loop-value l = Keeps [] l.fn.hub l.hub

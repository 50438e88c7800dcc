use Rattle.std.proofs.Common.{[]}
use Rattle.rr_ports.specs.Facts.{Keeps}
use Rattle.rr_callers.proofs.serving.serve.Given as goal

-- what numbers named they name still
abbrev pub invariant-loop-served : goal.invariant-loop-served
invariant-loop-served l = Keeps [] l.fn.hub l.hub

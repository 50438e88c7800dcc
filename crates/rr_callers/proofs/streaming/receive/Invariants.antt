use Rattle.std.proofs.Common.{[]}
use Rattle.rr_ports.specs.Facts.{Keeps}
use Rattle.rr_callers.proofs.streaming.receive.Given as goal

-- what numbers named they name still
abbrev pub invariant-loop-received : goal.invariant-loop-received
invariant-loop-received l = Keeps [] l.fn.hub l.hub

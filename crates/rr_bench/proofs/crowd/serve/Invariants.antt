use Rattle.std.proofs.Common.{[]}
use Rattle.rr_ports.specs.Facts.{Keeps}
use Rattle.rr_bench.proofs.crowd.serve.Given as goal

-- every number names what it named
abbrev pub invariant-loop : goal.invariant-loop
invariant-loop g l = Keeps [] l.initial.hub l.hub

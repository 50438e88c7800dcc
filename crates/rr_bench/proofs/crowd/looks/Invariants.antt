use Rattle.std.proofs.Common.{[]}
use Rattle.rr_ports.specs.Facts.{Keeps}
use Rattle.rr_bench.proofs.crowd.looks.Given as goal

-- every number names what it named
abbrev pub invariant-loop-looked : goal.invariant-loop-looked
invariant-loop-looked l = Keeps [] l.fn.hub l.hub

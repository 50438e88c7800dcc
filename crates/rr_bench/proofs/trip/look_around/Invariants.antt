use Rattle.std.proofs.Common.{[]}
use Rattle.rr_ports.specs.Facts.{Keeps}
use Rattle.rr_bench.proofs.trip.look_around.Given as goal

-- every number names what it named
abbrev pub invariant-loop-server : goal.invariant-loop-server
invariant-loop-server g l = Keeps [] l.initial.hub l.hub

use Rattle.std.proofs.Common.{[]}
use Rattle.rr_ports.specs.Facts.{Keeps}
use Rattle.rr_bench.proofs.trip.trips.Given as goal

-- every number names what it named
abbrev pub invariant-loop-asked : goal.invariant-loop-asked
invariant-loop-asked g l = Keeps [] l.fn.hub l.hub

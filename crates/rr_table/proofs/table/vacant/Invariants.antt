use Rattle.std.proofs.Common.{◌≡◌, replicate}
use Rattle.rr_table.specs.Places.{entry, vacant_number}
use Rattle.rr_table.proofs.table.vacant.Given as goal

abbrev pub invariant-loop-i : goal.invariant-loop-i
invariant-loop-i g l = l.places.items ≡ replicate l.i (entry vacant_number l.filler)

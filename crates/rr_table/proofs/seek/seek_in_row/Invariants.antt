use Rattle.std.proofs.Common.{◌≡◌, ℕ, ◌<◌, get_or, Some, None}
use Rattle.std.specs.Prelude.{◌≢◌}
use Rattle.rr_table.specs.Places.{places_of}
use Rattle.rr_table.specs.declared.table.Entry.{Entry}
use Rattle.rr_table.proofs.seek.seek_in_row.Given as goal

abbrev pub invariant-loop-index : goal.invariant-loop-index
invariant-loop-index g l = (i : ℕ) (e : Entry g.row.E.Denot) → i < l.index → get_or (places_of l.row) i None ≡ Some e
    → e.number ≢ l.number

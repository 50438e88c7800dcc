use Rattle.std.proofs.Common.{◌≡◌, ℕ, ◌<◌, Some}
use Rattle.std.specs.Prelude.{◌≢◌}
use Rattle.rr_table.specs.Places.{place, rows_of, standing}
use Rattle.rr_table.specs.declared.table.Entry.{Entry}
use Rattle.rr_table.proofs.seek.seek.Given as goal

abbrev pub invariant-loop-row : goal.invariant-loop-row
invariant-loop-row g l = (r i : ℕ) (e : Entry g.row.E.Denot) → r < l.row → standing (rows_of l.rows) (place r i) ≡ Some e
    → e.number ≢ l.number

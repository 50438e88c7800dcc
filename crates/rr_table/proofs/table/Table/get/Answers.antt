use Rattle.std.proofs.Common.{sym, ◌∙◌}
use Rattle.rr_table.proofs.Here.{of_number_some}
use Rattle.rr_table.proofs.Standing.{value_found, value_none}
use Rattle.rr_table.specs.Places.{rows_of}
use Rattle.rr_table.proofs.table.Table.get.Goals as goal

pub returns-in-Some-entry_at : goal.returns-in-Some-entry_at
returns-in-Some-entry_at g c =
    rw (← c.self.view_is) (value_found (rows_of c.self.inside.rows) _ _ _ c.self.invariant c.in-Some.ensures
    (of_number_some _ _ _ (sym c.entry_at.ensures ∙ c.in-Some-entry_at.is)).0)

pub returns-in-None : goal.returns-in-None
returns-in-None g c = rw (← c.self.view_is) (value_none (rows_of c.self.inside.rows) _ c.in-None.ensures)

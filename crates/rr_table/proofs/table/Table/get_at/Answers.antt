use Rattle.std.proofs.Common.{sym, ◌∙◌}
use Rattle.rr_table.proofs.Here.{of_number_some}
use Rattle.rr_table.proofs.Kept.{kept_here, kept_unless}
use Rattle.rr_table.specs.Places.{rows_of}
use Rattle.rr_table.proofs.table.Table.get_at.Goals as goal

pub returns-in-Some : goal.returns-in-Some
returns-in-Some g c =
    rw (← c.self.view_is)
    (let found = of_number_some _ _ _ (sym c.entry_at.ensures ∙ c.in-Some.is) in
    kept_here (rows_of c.self.inside.rows) _ _ _ c.self.invariant found.0 found.1)

pub returns-in-None : goal.returns-in-None
returns-in-None g c = rw (← c.self.view_is) (kept_unless (rows_of c.self.inside.rows) _ _ (sym c.entry_at.ensures ∙ c.in-None.is))

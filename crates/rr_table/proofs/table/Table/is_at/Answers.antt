use Rattle.std.proofs.Common.{sym, ap, ◌∙◌}
use Rattle.std.specs.Prelude.{is_some}
use Rattle.rr_table.proofs.Here.{here, found_there, some_there}
use Rattle.rr_table.specs.Places.{rows_of}
use Rattle.rr_table.proofs.table.Table.is_at.Goals as goal

pub returns-clause-there : goal.returns-clause-there
returns-clause-there g c =
    rw (← c.self.view_is)
    (λ same.
    let found = some_there _ _ (sym (ap is_some c.entry_at.ensures) ∙ sym c.is_some.ensures ∙ same) in
    (found.0.value, here (rows_of c.self.inside.rows) _ _ c.self.invariant found.0 found.1 found.2))

pub returns-clause-elsewhere : goal.returns-clause-elsewhere
returns-clause-elsewhere g c =
    rw (← c.self.view_is)
    (λ there. c.is_some.ensures ∙ ap is_some c.entry_at.ensures ∙ found_there (rows_of c.self.inside.rows) _ _ there)

use Rattle.std.proofs.Common.{sym, ◌∙◌}
use Rattle.rr_table.proofs.Entries.{standing_number}
use Rattle.rr_table.proofs.Here.{found_there, here, some_there, somewhere}
use Rattle.rr_table.specs.Places.{rows_of}
use Rattle.rr_table.proofs.table.Table.is_place_of.Goals as goal

pub is_number_at-requires : goal.is_number_at-requires
is_number_at-requires g c =
    let at = somewhere (rows_of c.self.inside.rows) c.args.number (rw (← c.self.view_is) at c.requires) in
    standing_number c.self.inside.rows.items _ _ _ at.1

pub returns-clause-there : goal.returns-clause-there
returns-clause-there g c =
    rw (← c.self.view_is)
    (λ same.
    let found = some_there _ _ (sym c.is_number_at.ensures ∙ same) in
    (found.0.value, here (rows_of c.self.inside.rows) _ _ c.self.invariant found.0 found.1 found.2))

pub returns-clause-elsewhere : goal.returns-clause-elsewhere
returns-clause-elsewhere g c =
    rw (← c.self.view_is) (λ there. c.is_number_at.ensures ∙ found_there (rows_of c.self.inside.rows) _ _ there)

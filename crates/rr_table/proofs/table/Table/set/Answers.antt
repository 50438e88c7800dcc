use Rattle.std.proofs.Common.{sym, subst}
use Rattle.std.specs.Prelude.{◌≡◌, IfSome}
use Rattle.std.specs.FinMap.{get}
use Rattle.rr_table.specs.TableView.{inserted}
use Rattle.rr_table.proofs.Standing.{nowhere, placed_within, set_distinct, set_is}
use Rattle.rr_table.proofs.Vectors.{occupied_at}
use Rattle.rr_table.proofs.Entries.{placed_number}
use Rattle.rr_table.specs.Places.{rows_of, table_of, IsDistinct}
use Rattle.rr_table.proofs.table.Table.set.Goals as goal

pub invariant_of-self : goal.invariant_of-self
invariant_of-self g c =
    let rows = rows_of c.self.inside.rows in
    let is = occupied_at c.self.inside.rows.items c.in-Some.place c.index_mut.result.now _
    (placed_number c.self.inside.rows _ _ c.in-Some.ensures)
    (placed_within rows _ _ c.self.invariant c.in-Some.ensures) c.index_mut.ensures.value in
    subst IsDistinct (sym is) (set_distinct rows _ _ c.self.invariant c.in-Some.ensures _)

pub returns-in-Some : goal.returns-in-Some
returns-in-Some g c =
    let rows = rows_of c.self.inside.rows in
    let is = occupied_at c.self.inside.rows.items c.in-Some.place c.index_mut.result.now _
    (placed_number c.self.inside.rows _ _ c.in-Some.ensures)
    (placed_within rows _ _ c.self.invariant c.in-Some.ensures) c.index_mut.ensures.value in
    rw (← c.self.view_is) (subst (λ l. IfSome (get (table_of rows).entries c.args.number)
    (λ s. table_of l ≡ inserted (table_of rows) c.args.number s.place c.args.value)) (sym is)
    (set_is rows _ _ c.self.invariant c.in-Some.ensures _))

pub returns-in_default : goal.returns-in_default
returns-in_default g c = absurd ((rw (← c.self.view_is) at c.requires) (nowhere (rows_of c.self.inside.rows) _ c.in_default.ensures))

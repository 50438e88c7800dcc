use Rattle.std.proofs.Common.{sym, ap, ◌∙◌, subst}
use Rattle.std.specs.Prelude.{IfSome}
use Rattle.std.specs.FinMap.{get}
use Rattle.rr_table.specs.TableView.{IsVacant}
use Rattle.rr_table.proofs.Standing.{nowhere, placed_within, removed_distinct, removed_is, vacated_is}
use Rattle.rr_table.proofs.Vectors.{written_at}
use Rattle.rr_table.specs.Places.{rows_of, table_of, IsDistinct}
use Rattle.rr_table.proofs.table.Table.remove.Goals as goal

pub invariant_of-self : goal.invariant_of-self
invariant_of-self g c =
    let rows = rows_of c.self.inside.rows in
    let is = written_at c.self.inside.rows.items c.in-Some.place c.index_mut.result.now _
    (placed_within rows _ _ c.self.invariant c.in-Some.ensures) c.index_mut.ensures.value in
    subst IsDistinct (sym is) (removed_distinct rows _ _ c.self.invariant c.in-Some.ensures)

pub returns-in-Some-clause-gone : goal.returns-in-Some-clause-gone
returns-in-Some-clause-gone g c =
    let rows = rows_of c.self.inside.rows in
    let is = written_at c.self.inside.rows.items c.in-Some.place c.index_mut.result.now _
    (placed_within rows _ _ c.self.invariant c.in-Some.ensures) c.index_mut.ensures.value in
    rw (← c.self.view_is) (ap table_of is ∙ removed_is rows _ _ c.self.invariant c.in-Some.ensures)

pub returns-in-Some-clause-vacated : goal.returns-in-Some-clause-vacated
returns-in-Some-clause-vacated g c =
    let rows = rows_of c.self.inside.rows in
    let is = written_at c.self.inside.rows.items c.in-Some.place c.index_mut.result.now _
    (placed_within rows _ _ c.self.invariant c.in-Some.ensures) c.index_mut.ensures.value in
    rw (← c.self.view_is) (subst (λ l. IfSome (get (table_of rows).entries c.args.number) (λ s. IsVacant (table_of l) s.place)) (sym is)
    (vacated_is rows _ _ c.self.invariant c.in-Some.ensures))

pub returns-in_default-clause-gone : goal.returns-in_default-clause-gone
returns-in_default-clause-gone g c = absurd ((rw (← c.self.view_is) at c.requires)
    (nowhere (rows_of c.self.inside.rows) _ c.in_default.ensures))

pub returns-in_default-clause-vacated : goal.returns-in_default-clause-vacated
returns-in_default-clause-vacated g c = absurd ((rw (← c.self.view_is) at c.requires)
    (nowhere (rows_of c.self.inside.rows) _ c.in_default.ensures))

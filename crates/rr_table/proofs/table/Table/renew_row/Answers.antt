use Rattle.std.proofs.Common.{sym, subst}
use Rattle.rr_table.proofs.Rows.{renewed_distinct, renewed_is}
use Rattle.rr_table.proofs.Vectors.{renewed_at, row_inside}
use Rattle.rr_table.specs.TableView.{IsRenewed}
use Rattle.rr_table.specs.Places.{rows_of, table_of, IsDistinct}
use Rattle.rr_table.proofs.table.Table.renew_row.Goals as goal

pub invariant_of-self : goal.invariant_of-self
invariant_of-self g c =
    let rows = rows_of c.self.inside.rows in
    let inside = row_inside rows c.args.row (rw (← c.self.view_is) at c.requires) in
    let is = renewed_at c.self.inside.rows.items c.args.row _ c.args.len _ c.in_ok-renewed.ensures in
    subst IsDistinct (sym is) (renewed_distinct rows c.args.row c.args.len inside c.self.invariant)

pub returns-clause-ok : goal.returns-clause-ok
returns-clause-ok g c =
    let rows = rows_of c.self.inside.rows in
    let inside = row_inside rows c.args.row (rw (← c.self.view_is) at c.requires) in
    let is = renewed_at c.self.inside.rows.items c.args.row _ c.args.len _ c.in_ok-renewed.ensures in
    rw (← c.self.view_is) (subst (λ l. IsRenewed c.args.row c.args.len (table_of rows) (table_of l)) (sym is)
    (renewed_is rows c.args.row c.args.len inside c.self.invariant))

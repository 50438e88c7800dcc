use Rattle.std.proofs.Common.{sym, ap, ◌∙◌, subst}
use Rattle.rr_table.proofs.Rows.{pushed_distinct, pushed_is}
use Rattle.rr_table.proofs.Vectors.{pushed_at}
use Rattle.rr_table.specs.Places.{rows_of, table_of, IsDistinct}
use Rattle.rr_table.proofs.table.Table.add_row.Goals as goal

pub invariant_of-self-2 : goal.invariant_of-self-2
invariant_of-self-2 g c =
    let is = pushed_at c.self.inside.rows.items _ _ _ _ c.in_ok-push.ensures.items c.in_ok-last.ensures in
    subst IsDistinct (sym is) (pushed_distinct (rows_of c.self.inside.rows) c.args.len c.self.invariant)

pub returns-clause-ok : goal.returns-clause-ok
returns-clause-ok g c =
    let is = pushed_at c.self.inside.rows.items _ _ _ _ c.in_ok-push.ensures.items c.in_ok-last.ensures in
    rw (← c.self.view_is) (ap table_of is ∙ pushed_is (rows_of c.self.inside.rows) c.args.len c.self.invariant)

use Rattle.std.proofs.Common.{sym, ap, ◌∙◌, subst}
use Rattle.rr_table.proofs.Standing.{inserted_distinct, inserted_is, inserted_its}
use Rattle.rr_table.proofs.Vectors.{index_within, within_inside, occupied_at}
use Rattle.rr_table.proofs.Entries.{not_vacant}
use Rattle.rr_table.specs.Places.{rows_of, table_of, IsDistinct}
use Rattle.rr_table.proofs.table.Table.insert.Goals as goal

pub index_mut-requires-2 : goal.index_mut-requires-2
index_mut-requires-2 g c =
    let r = rw (← c.self.view_is) at c.requires in
    index_within c.self.inside.rows.items c.args.place c.index_mut.result.now
    (within_inside (rows_of c.self.inside.rows) c.args.place r.place) c.index_mut.ensures.value

pub invariant_of-self : goal.invariant_of-self
invariant_of-self g c =
    let rows = rows_of c.self.inside.rows in
    let r = rw (← c.self.view_is) at c.requires in
    let within = within_inside rows c.args.place r.place in
    let is = occupied_at c.self.inside.rows.items c.args.place c.index_mut.result.now _
    (not_vacant _ r.number) within c.index_mut.ensures.value in
    subst IsDistinct (sym is) (inserted_distinct rows c.args.place _ _ within c.self.invariant (λ k s h _. r.vacant k s h)
    (inserted_its _ _ _ r.fresh))

pub returns : goal.returns
returns g c =
    let rows = rows_of c.self.inside.rows in
    let r = rw (← c.self.view_is) at c.requires in
    let within = within_inside rows c.args.place r.place in
    let is = occupied_at c.self.inside.rows.items c.args.place c.index_mut.result.now _
    (not_vacant _ r.number) within c.index_mut.ensures.value in
    rw (← c.self.view_is) (ap table_of is ∙ inserted_is rows c.args.place _ _ within c.self.invariant (λ k s h _. r.vacant k s h)
    (inserted_its _ _ _ r.fresh))

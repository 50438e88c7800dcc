use Rattle.std.proofs.Common.{sym, ap, ◌∙◌, subst, arith}
use Rattle.rr_table.proofs.Here.{within_here, place_here, set_here}
use Rattle.rr_table.proofs.Standing.{set_distinct}
use Rattle.rr_table.proofs.Values.{value_written}
use Rattle.rr_table.proofs.Vectors.{within_vectors, index_within}
use Rattle.rr_table.specs.Places.{rows_of, table_of, IsDistinct}
use Rattle.rr_table.proofs.table.Table.set_at.Goals as goal

pub index_mut-requires : goal.index_mut-requires
index_mut-requires g c =
    omega (
      arith,
      within_vectors c.self.inside.rows.items c.args.place
          (within_here (rows_of c.self.inside.rows) _ _ c.self.invariant (rw (← c.self.view_is) at c.requires)),
      c.self.inside.rows.ok.0,
    )

pub index_mut-requires-2 : goal.index_mut-requires-2
index_mut-requires-2 g c =
    index_within c.self.inside.rows.items c.args.place c.index_mut.result.now
    (within_here (rows_of c.self.inside.rows) _ _ c.self.invariant (rw (← c.self.view_is) at c.requires)) c.index_mut.ensures.value

pub invariant_of-self : goal.invariant_of-self
invariant_of-self g c =
    let rows = rows_of c.self.inside.rows in
    let there = rw (← c.self.view_is) at c.requires in
    let is = value_written c.self.inside.rows.items c.args.number c.args.place c.self.invariant there c.index_mut.result.now
    c.index_mut-2.result.now c.index_mut.ensures.value c.index_mut-2.ensures.value c.args.value in
    subst IsDistinct (sym is) (set_distinct rows _ _ c.self.invariant (place_here rows _ _ there) _)

pub returns : goal.returns
returns g c =
    let rows = rows_of c.self.inside.rows in
    let there = rw (← c.self.view_is) at c.requires in
    let is = value_written c.self.inside.rows.items c.args.number c.args.place c.self.invariant there c.index_mut.result.now
    c.index_mut-2.result.now c.index_mut.ensures.value c.index_mut-2.ensures.value c.args.value in
    rw (← c.self.view_is) (ap table_of is ∙ set_here rows _ _ c.self.invariant there _)

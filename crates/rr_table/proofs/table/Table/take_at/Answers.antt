use Rattle.std.proofs.Common.{sym, ap, ◌∙◌, subst, arith}
use Rattle.rr_table.proofs.Here.{within_here, place_here, vacated_here}
use Rattle.rr_table.proofs.Standing.{removed_distinct, removed_is}
use Rattle.rr_table.proofs.Vectors.{within_vectors, index_within, written_at}
use Rattle.rr_table.specs.TableView.{IsVacant}
use Rattle.rr_table.specs.Places.{rows_of, table_of, IsDistinct}
use Rattle.rr_table.proofs.table.Table.take_at.Goals as goal

pub index_mut-requires : goal.index_mut-requires
index_mut-requires g c =
    omega (
      arith,
      within_vectors c.self.inside.rows.items c.args.place
          (within_here (rows_of c.self.inside.rows) _ _ c.self.invariant (rw (← c.self.view_is) at c.requires)),
      c.self.inside.rows.ok.0,
    )

pub index_mut-requires-2 : goal.index_mut-requires-2
index_mut-requires-2 g c =
    index_within c.self.inside.rows.items c.args.place c.index_mut.result.now
    (within_here (rows_of c.self.inside.rows) _ _ c.self.invariant (rw (← c.self.view_is) at c.requires)) c.index_mut.ensures.value

pub invariant_of-self : goal.invariant_of-self
invariant_of-self g c =
    let rows = rows_of c.self.inside.rows in
    let there = rw (← c.self.view_is) at c.requires in
    let is = written_at c.self.inside.rows.items c.args.place c.index_mut.result.now _ (within_here rows _ _ c.self.invariant there)
    c.index_mut.ensures.value in
    subst IsDistinct (sym is) (removed_distinct rows _ _ c.self.invariant (place_here rows _ _ there))

pub returns-clause-gone : goal.returns-clause-gone
returns-clause-gone g c =
    let rows = rows_of c.self.inside.rows in
    let there = rw (← c.self.view_is) at c.requires in
    let is = written_at c.self.inside.rows.items c.args.place c.index_mut.result.now _ (within_here rows _ _ c.self.invariant there)
    c.index_mut.ensures.value in
    rw (← c.self.view_is) (ap table_of is ∙ removed_is rows _ _ c.self.invariant (place_here rows _ _ there))

pub returns-clause-vacated : goal.returns-clause-vacated
returns-clause-vacated g c =
    let rows = rows_of c.self.inside.rows in
    let there = rw (← c.self.view_is) at c.requires in
    let is = written_at c.self.inside.rows.items c.args.place c.index_mut.result.now _ (within_here rows _ _ c.self.invariant there)
    c.index_mut.ensures.value in
    subst (λ l. IsVacant (table_of l) c.args.place) (sym is) (vacated_here rows _ _ c.self.invariant there)

use Rattle.std.proofs.Common.{sym, ap, ◌∙◌, arith}
use Rattle.rr_table.proofs.Here.{within_here, entry_here, value_here}
use Rattle.rr_table.proofs.Vectors.{within_vectors, index_within, standing_read}
use Rattle.rr_table.proofs.Entries.{occupied_is, occupied_some}
use Rattle.rr_table.specs.Places.{rows_of}
use Rattle.rr_table.proofs.table.Table.at.Goals as goal

pub index-requires : goal.index-requires
index-requires g c =
    omega (
      arith,
      within_vectors c.self.inside.rows.items c.args.place
          (within_here (rows_of c.self.inside.rows) _ _ c.self.invariant (rw (← c.self.view_is) at c.requires)),
      c.self.inside.rows.ok.0,
    )

pub index-requires-2 : goal.index-requires-2
index-requires-2 g c =
    index_within c.self.inside.rows.items c.args.place c.index.result.now
    (within_here (rows_of c.self.inside.rows) _ _ c.self.invariant (rw (← c.self.view_is) at c.requires)) c.index.ensures

pub returns : goal.returns
returns g c =
    let rows = rows_of c.self.inside.rows in
    let there = rw (← c.self.view_is) at c.requires in
    let within = within_here rows _ _ c.self.invariant there in
    let at = standing_read c.self.inside.rows.items c.args.place c.index.result.now _
    (within_vectors c.self.inside.rows.items c.args.place within)
    (index_within c.self.inside.rows.items c.args.place c.index.result.now within c.index.ensures) c.index.ensures c.index-2.ensures in
    let found = occupied_some _ _ (sym at ∙ entry_here rows _ _ there) in
    rw (← c.self.view_is) (value_here rows _ _ c.self.invariant there _ (at
    ∙ occupied_is _ (λ v. found.1 (ap (λ z. z.number) (sym found.0) ∙ v))))

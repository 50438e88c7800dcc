use Rattle.std.proofs.Common.{arith, None, get_or, sym, ap, ◌∙◌, ⊎_elim}
use Rattle.std.proofs.lemmas.Bool.{cases_eq}
use Rattle.rr_table.proofs.Entries.{entry_read, row_number, occupied_is, occupied_some}
use Rattle.rr_table.specs.Places.{places_of}
use Rattle.rr_table.proofs.seek.seek_in_row.Goals as goal

pub returns-then-number-eq-VACANT : goal.returns-then-number-eq-VACANT
returns-then-number-eq-VACANT g c = λ i e h same. row_number c.args.row.now.places.items i e h (same ∙ c.if-number-eq-VACANT.true)

pub returns-then-index-number : goal.returns-then-index-number
returns-then-index-number g c = (
  c.index.result.now,
  entry_read c.args.row.now.places.items c.loop-index.index _ c.index.ensures (omega arith)
      ∙ occupied_is _ (λ v. c.if-number-eq-VACANT.false (sym c.if-index-number.true ∙ v)),
  c.if-index-number.true,
)

pub loop-index-preserved : goal.loop-index-preserved
loop-index-preserved g c = λ i e l h same.
    ⊎_elim
    (λ here. let at = sym (entry_read c.args.row.now.places.items c.loop-index.index _ c.index.ensures (omega arith))
    ∙ ap (λ k. get_or (places_of c.args.row.now) k None) (sym here) ∙ h in
    c.if-index-number.false (ap (λ x. x.number) (occupied_some _ e at).0 ∙ same))
    (λ other. c.loop-index.invariant i e (omega arith) h same)
    (cases_eq i c.loop-index.index)

use Rattle.std.proofs.Common.{[], None, get_or, sym, ap, ◌∙◌, ⊎_elim, arith}
use Rattle.std.proofs.lemmas.Bool.{cases_eq}
use Rattle.std.specs.Prelude.{is_some}
use Rattle.rr_table.proofs.Here.{some_there}
use Rattle.rr_table.proofs.Vectors.{row_at}
use Rattle.rr_table.specs.Places.{rows_of}
use Rattle.rr_table.proofs.seek.seek.Goals as goal

pub returns-then-is_some : goal.returns-then-is_some
returns-then-is_some g c = some_there _ _ (sym (ap is_some c.entry_at.ensures) ∙ sym c.is_some.ensures ∙ c.if-is_some.true)

pub returns-in-Some : goal.returns-in-Some
returns-in-Some g c =
    let found = c.in-Some.ensures in
    let row = row_at c.args.rows.now.items c.loop-row.row _ (omega arith) c.index.ensures in
    (found.0, ap (λ l. get_or l c.in-Some.index None) row ∙ found.1, found.2)

pub loop-row-preserved : goal.loop-row-preserved
loop-row-preserved g c = λ r i e l h same.
    let rows = rows_of c.args.rows.now in
    let row = row_at c.args.rows.now.items c.loop-row.row _ (omega arith) c.index.ensures in
    ⊎_elim
    (λ here. c.in_default.ensures i e (ap (λ k. get_or k i None) (sym row)
    ∙ ap (λ k. get_or (get_or rows k []) i None) (sym here) ∙ h) same)
    (λ other. c.loop-row.invariant r i e (omega arith) h same)
    (cases_eq r c.loop-row.row)

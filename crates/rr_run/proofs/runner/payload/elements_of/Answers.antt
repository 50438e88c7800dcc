use Rattle.std.proofs.Common.{◌≡◌, List, [], ◌∷◌, length, get_or, sym, ap, ◌∙◌, arith}
use Rattle.std.proofs.lemmas.Option.{get_or_from_slice_get}
use Rattle.rr_run.proofs.runner.payload.elements_of.Goals as goal

-- the one element of a list is the list
alone : {A : Type 0} (xs : List A) (x : A) → length xs ≡ 1 → get_or xs 0 x ≡ x → x ∷ [] ≡ xs
alone [] x one is = absurd (omega (arith, one))
alone (y ∷ []) x one is = ap (λ z. z ∷ []) (sym is)
alone (y ∷ z ∷ ys) x one is = absurd (omega (arith, one))

pub returns-then-len-eq1-clause-ok : goal.returns-then-len-eq1-clause-ok
returns-then-len-eq1-clause-ok g c =
    let xs = g.B.Body.elements c.args.body.now in
    let x = c.get.result.now in
    c.from.ensures ∙ alone xs x (sym c.len.ensures ∙ c.if-len-eq1.true) (get_or_from_slice_get xs 0 x x c.get.ensures)

-- The first index at which a test passes.
use Rattle.std.proofs.Common.{◌≡◌, ◌<◌, ◌+◌, ℕ, zero, suc, Bool, true, false, cond, List, [], ◌∷◌, None, Some, get_or, length, refl, take, ap, ◌∙◌, arith}
use Rattle.std.specs.List.{list_any, position, position_from}
use Rattle.std.proofs.lemmas.Iterator.Adapters.{position_from-zero}
use Rattle.rr_store.proofs.base.lists.Adding.{left_off, right_off}

module _ {X : Type 0} (test : X → Bool) where
  from_here : (xs : List X) (base i : ℕ) (d : X) → i < length xs → test (get_or xs i d) ≡ true → list_any test (take i xs) ≡ false
      → position_from test base xs ≡ Some (base + i)
  from_here [] base i d within passes before = absurd (omega (arith, within))
  from_here (x ∷ xs) base zero d within passes before =
      ap (λ b. cond b (Some base) (position_from test (base + 1) xs)) passes ∙ ap Some (omega arith)
  from_here (x ∷ xs) base (suc i) d within passes before =
      ap (λ b. cond b (Some base) (position_from test (base + 1) xs)) (left_off (test x) (list_any test (take i xs)) before)
      ∙ from_here xs (base + 1) i d (omega (arith, within)) passes (right_off (test x) (list_any test (take i xs)) before)
      ∙ ap Some (omega arith)

  from_nowhere : (xs : List X) (base : ℕ) → list_any test xs ≡ false → position_from test base xs ≡ None
  from_nowhere [] base none = refl
  from_nowhere (x ∷ xs) base none =
      ap (λ b. cond b (Some base) (position_from test (base + 1) xs)) (left_off (test x) (list_any test xs) none)
      ∙ from_nowhere xs (base + 1) (right_off (test x) (list_any test xs) none)

  -- the element at an index passes, and none before it does
  pub position_here : (xs : List X) (i : ℕ) (d : X) → i < length xs → test (get_or xs i d) ≡ true → list_any test (take i xs) ≡ false
      → position test xs ≡ Some i
  position_here xs i d within passes before = position_from-zero test xs ∙ from_here xs 0 i d within passes before ∙ ap Some (omega arith)

  -- none passes
  pub position_nowhere : (xs : List X) → list_any test xs ≡ false → position test xs ≡ None
  position_nowhere xs none = position_from-zero test xs ∙ from_nowhere xs 0 none

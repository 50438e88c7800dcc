-- What is found in a list of which one element was replaced.
use Rattle.std.proofs.Common.{◌≡◌, ◌<◌, ℕ, zero, suc, Bool, true, false, List, [], ◌∷◌, length, get_or, refl, sym, ◌∙◌, arith}
use Rattle.std.specs.Prelude.{slice_set, find}
use Rattle.rr_store.proofs.base.lists.Found.{find_here, find_there}

-- where neither the old element nor the new one passes, the same is found
pub find_skip : {X : Type 0} (test : X → Bool) (xs : List X) (i : ℕ) (y d : X) → i < length xs → test y ≡ false
    → test (get_or xs i d) ≡ false → find test (slice_set xs i y) ≡ find test xs
find_skip test [] i y d h a b = absurd (omega (arith, h))
find_skip test (x ∷ xs) zero y d h a b = find_there test y xs a ∙ sym (find_there test x xs b)
find_skip {X} test (x ∷ xs) (suc i) y d h a b = go (find_skip test xs i y d (omega (arith, h)) a b) (test x) refl
  where
    go : find test (slice_set xs i y) ≡ find test xs → (t : Bool) → test x ≡ t → find test (x ∷ slice_set xs i y) ≡ find test (x ∷ xs)
    go rest true e = find_here test x (slice_set xs i y) e ∙ sym (find_here test x xs e)
    go rest false e = find_there test x (slice_set xs i y) e ∙ rest ∙ sym (find_there test x xs e)

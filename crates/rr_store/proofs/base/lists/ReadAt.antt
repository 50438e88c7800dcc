-- An element that was read at an index.
use Rattle.std.proofs.Common.{◌≡◌, ◌<◌, ◌+◌, ℕ, List, ◌∷◌, Some, length, get_or, sym, ap, ◌∙◌, subst, ⊎_elim, arith}
use Rattle.std.specs.Prelude.{slice_get, drop}
use Rattle.std.proofs.lemmas.Bool.{cases_lt}
use Rattle.std.proofs.lemmas.List.{drop_more}
use Rattle.std.proofs.lemmas.Option.{slice_get_within, slice_get-get_or, get_or_from_slice_get}

-- the element at an index, and those behind it
pub drop_here : {X : Type 0} (xs : List X) (i : ℕ) (x : X) → slice_get xs i ≡ Some x → drop i xs ≡ x ∷ drop (i + 1) xs
drop_here {X} xs i x at = drop_more xs i x (slice_get_within xs i x at)
    ∙ ap (λ (y : X). y ∷ drop (i + 1) xs) (get_or_from_slice_get xs i x x at)

-- an element that was read at an index
pub item_at : {X : Type 0} (xs : List X) (i : ℕ) (x : X) → i < length xs → x ≡ get_or xs i x → slice_get xs i ≡ Some x
item_at xs i x within is = slice_get-get_or xs i x within ∙ ap Some (sym is)

-- what is true of the first elements and of the next one
pub one_further : {X : Type 0} (P : X → Type 0) (xs : List X) (n : ℕ) → ((i : ℕ) (x : X) → i < n → slice_get xs i ≡ Some x → P x) → (y : X)
    → slice_get xs n ≡ Some y → P y
    → (i : ℕ) (x : X) → i < n + 1 → slice_get xs i ≡ Some x → P x
one_further P xs n first y there is i x less at =
    ⊎_elim
    (λ h. first i x h at)
    (λ h. let same : i ≡ n = omega (arith, h, less) in
    let f : Some y ≡ Some x = sym there ∙ ap (slice_get xs) (sym same) ∙ at in
    let one : y ≡ x = cc in subst P one is)
    (cases_lt i n)

-- Lists whose numbers rise.
use Rattle.std.proofs.Common.{◌≡◌, ◌≢◌, ◌<◌, ◌≤◌, ℕ, List, Some, map, option_map, ap, ◌∙◌, ⊎_elim, arith}
use Rattle.std.specs.Prelude.{slice_get}
use Rattle.std.proofs.lemmas.Bool.{cases_eq, cases_lt}
use Rattle.std.proofs.lemmas.Option.{slice_get-map}
use Rattle.rr_store.specs.Order.{IsRising}

-- one number stands in one place
pub rising_once : {X : Type 0} (read : X → ℕ) (xs : List X) → IsRising read xs → (i j : ℕ) (x y : X)
    → slice_get xs i ≡ Some x → slice_get xs j ≡ Some y → read x ≡ read y → i ≡ j
rising_once read xs rising i j x y at there same =
    ⊎_elim (λ e. e)
    (λ n. ⊎_elim
    (λ h. absurd (omega (arith, same, rising i j x y at there h)))
    (λ h. absurd (omega (arith, same, rising j i y x there at (below i j n h))))
    (cases_lt i j))
    (cases_eq i j)
  where
    below : (i j : ℕ) → i ≢ j → j ≤ i → j < i
    below i j n h = ⊎_elim (λ l. l) (λ l. absurd (n (omega (arith, h, l)))) (cases_lt j i)

-- where the numbers of what is made of each element rise, those of the elements do
pub rising_unmapped : {X Y : Type 0} (f : X → Y) (read : Y → ℕ) (xs : List X) → IsRising read (map f xs)
    → IsRising (λ x. read (f x)) xs
rising_unmapped f read xs rising i j x y at there =
    rising i j (f x) (f y) (slice_get-map f xs i ∙ ap (option_map f) at) (slice_get-map f xs j ∙ ap (option_map f) there)

-- A list without the element at an index.
use Rattle.std.proofs.Common.{◌≡◌, ◌≢◌, ◌<◌, ◌≤◌, ◌+◌, ◌-◌, ◌++◌, ℕ, suc, List, Some, drop, get_or, length, map, refl, sym, take, ap, ◌∙◌, ⊎_elim, arith}
use Rattle.std.specs.Prelude.{slice_get}
use Rattle.std.specs.List.{remove}
use Rattle.std.proofs.lemmas.Bool.{cases_lt}
use Rattle.std.proofs.lemmas.List.{drop-map, map-append, take-map}
use Rattle.std.proofs.lemmas.List.Edits.{get_or-remove_above, get_or-remove_below, length-remove}
use Rattle.std.proofs.lemmas.Option.{get_or_from_slice_get, slice_get-get_or, slice_get_within}

-- where an element of the shorter list stood: before the index in the same place, from it on one later
pub record Stood {X : Type 0} (xs : List X) (index i : ℕ) (x : X) : Type 0 where
  pub place : ℕ
  pub at : slice_get xs place ≡ Some x
  pub below : i < index → place ≡ i
  pub above : index ≤ i → place ≡ i + 1

module _ {X : Type 0} (xs : List X) (index : ℕ) (within : index < length xs) where
  pub stood : (i : ℕ) (x : X) → slice_get (remove xs index) i ≡ Some x → Stood xs index i x
  stood i x at =
      let there : i < length (remove xs index) = slice_get_within (remove xs index) i x at in
      ⊎_elim
      (λ h. record {
        place = i;
        at = slice_get-get_or xs i x (omega (arith, there, length-remove xs index within))
            ∙ ap Some (sym (get_or-remove_below xs index x i h within) ∙ get_or_from_slice_get (remove xs index) i x x at);
        below = λ _. refl;
        above = λ g. absurd (omega (arith, g, h));
      })
      (λ h. record {
        place = i + 1;
        at = slice_get-get_or xs (i + 1) x (omega (arith, there, length-remove xs index within))
            ∙ ap Some (sym (get_or-remove_above xs index x i h within) ∙ get_or_from_slice_get (remove xs index) i x x at);
        below = λ g. absurd (omega (arith, g, h));
        above = λ _. refl;
      })
      (cases_lt i index)

  -- it did not stand at the index
  pub elsewhere : (i : ℕ) (x : X) (s : Stood xs index i x) → s.place ≢ index
  elsewhere i x s same =
      ⊎_elim (λ h. omega (arith, h, same, s.below h)) (λ h. omega (arith, h, same, s.above h)) (cases_lt i index)

  -- two elements stand as they stood
  pub rises : (i j : ℕ) (x y : X) (s : Stood xs index i x) (t : Stood xs index j y) → i < j → s.place < t.place
  rises i j x y s t less =
      ⊎_elim
      (λ h. ⊎_elim (λ g. omega (arith, less, s.below h, t.below g)) (λ g. omega (arith, less, s.below h, t.above g)) (cases_lt j index))
      (λ h. omega (arith, less, s.above h, t.above (omega (arith, h, less))))
      (cases_lt i index)

  pub one_place : (i j : ℕ) (x y : X) (s : Stood xs index i x) (t : Stood xs index j y) → s.place ≡ t.place → i ≡ j
  one_place i j x y s t same =
      ⊎_elim (λ h. absurd (omega (arith, same, rises i j x y s t h)))
      (λ h. ⊎_elim (λ g. absurd (omega (arith, same, rises j i y x t s g))) (λ g. omega (arith, h, g)) (cases_lt j i)) (cases_lt i j)

  -- an element that stood elsewhere still stands
  pub still : (j : ℕ) (x : X) → slice_get xs j ≡ Some x → j ≢ index → (i : ℕ) × (slice_get (remove xs index) i ≡ Some x)
  still j x at other =
      let there : j < length xs = slice_get_within xs j x at in
      ⊎_elim
      (λ h. (
        j,
        slice_get-get_or (remove xs index) j x (omega (arith, h, within, length-remove xs index within))
            ∙ ap Some (get_or-remove_below xs index x j h within ∙ get_or_from_slice_get xs j x x at),
      ))
      (λ h. later (⊎_elim (λ g. g) (λ g. absurd (other (omega (arith, g, h)))) (cases_lt index j)) there)
      (cases_lt j index)
    where
      later : index < j → j < length xs → (i : ℕ) × (slice_get (remove xs index) i ≡ Some x)
      later h there =
          let back : j - 1 + 1 ≡ j = omega (arith, h) in (
            j - 1,
            slice_get-get_or (remove xs index) (j - 1) x (omega (arith, h, there, length-remove xs index within))
                ∙ ap Some (get_or-remove_above xs index x (j - 1) (omega (arith, h)) within ∙ ap (λ k. get_or xs k x) back
                ∙ get_or_from_slice_get xs j x x at),
          )

-- what is built of each is removed too
pub map-remove : {X Y : Type 0} (f : X → Y) (xs : List X) (index : ℕ) → map f (remove xs index) ≡ remove (map f xs) index
map-remove f xs index =
    map-append f (take index xs) (drop (suc index) xs)
    ∙ ap (λ ys. ys ++ map f (drop (suc index) xs)) (sym (take-map f index xs))
    ∙ ap (λ ys. take index (map f xs) ++ ys) (sym (drop-map f (suc index) xs))

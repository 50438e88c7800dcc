-- What a bisection of a list whose numbers rise leaves to look at.
use Rattle.std.proofs.Common.{◌≡◌, ◌⊎◌, ◌<◌, ◌≤◌, ◌+◌, ◌-◌, ℕ, zero, suc, List, Option, None, Some, length, get_or, refl, sym, ap, ◌∙◌, ⊎_elim, arith}
use Rattle.std.specs.Prelude.{◌==◌, slice_get}
use Rattle.std.specs.List.{position}
use Rattle.std.proofs.lemmas.Bool.{cases_lt, eq-eqb, eqb-true}
use Rattle.std.proofs.lemmas.Option.{slice_get-get_or, slice_get_within}
use Rattle.rr_store.specs.Order.{IsRising}
use Rattle.rr_store.proofs.base.lists.Replaced.{standing}
use Rattle.rr_store.proofs.base.lists.Rising.{rising_once}
use Rattle.rr_store.proofs.base.senders.Ports.{sender_found}

-- what is before `low` has smaller numbers, and what is from `high` on has larger ones
pub record IsBetween {X : Type 0} (read : X → ℕ) (xs : List X) (n low high : ℕ) : Type 0 where
  pub inside : high ≤ length xs
  pub below : (i : ℕ) (x : X) → slice_get xs i ≡ Some x → i < low → read x < n
  pub above : (i : ℕ) (x : X) → slice_get xs i ≡ Some x → high ≤ i → n < read x

module _ {X : Type 0} (read : X → ℕ) (xs : List X) (n : ℕ) where
  -- numbers that rise are as far apart at least as their places
  apart : IsRising read xs → (d i : ℕ) (x y : X) → slice_get xs i ≡ Some x → slice_get xs (i + d) ≡ Some y → read x + d ≤ read y
  apart rising zero i x y at there =
      let f : Some x ≡ Some y = sym at ∙ ap (slice_get xs) (let e : i ≡ i + 0 = omega arith in e) ∙ there in
      let is : x ≡ y = cc in
      omega (arith, ap read is)
  apart rising (suc d) i x y at there =
      let z = get_or xs (i + d) x in
      let between = slice_get-get_or xs (i + d) x (omega (arith, slice_get_within xs (i + suc d) y there)) in
      omega (arith, apart rising d i x z at between, rising (i + d) (i + suc d) z y between there (omega arith))

  -- so the first and the last one say where a number may stand
  pub between_start : IsRising read xs → (most : ℕ) → length xs ≡ most + 1 → (first last : X) → slice_get xs 0 ≡ Some first
      → slice_get xs most ≡ Some last → (high : ℕ) → high ≤ most + 1 → (n - read first < high) ⊎ (high ≡ most + 1)
      → IsBetween read xs n (most - (read last - n)) high
  between_start rising most many first last at_first at_last high fits wide = record {
    inside = omega (arith, many, fits);
    below = λ i x at h. let step = apart rising (most - i) i x last at
        (ap (slice_get xs) (let e : i + (most - i) ≡ most = omega (arith, h) in e) ∙ at_last) in omega (arith, step, h);
    above = λ i x at h.
        let step = apart rising i 0 first x at_first (ap (slice_get xs) (let e : 0 + i ≡ i = omega arith in e) ∙ at) in
        let there = slice_get_within xs i x at in
        ⊎_elim (λ w. omega (arith, step, h, w)) (λ w. absurd (omega (arith, h, w, there, many))) wide;
  }

  -- nothing is left
  pub between_none : (low high : ℕ) → IsBetween read xs n low high → high ≤ low → position (λ x. read x == n) xs ≡ None
  between_none low high between done = go (position (λ x. read x == n) xs) refl
    where
      go : (o : Option ℕ) → position (λ x. read x == n) xs ≡ o → position (λ x. read x == n) xs ≡ None
      go None e = e
      go (Some i) e =
          let it = standing (λ x. read x == n) xs i e in
          let is : read it.it ≡ n = eqb-true (read it.it) n it.passes in
          absurd (⊎_elim
          (λ h. omega (arith, is, between.below i it.it it.at h))
          (λ h. omega (arith, is, between.above i it.it it.at (omega (arith, h, done))))
          (cases_lt i low))

  module _ (rising : IsRising read xs) (middle : ℕ) (x : X) (within : middle < length xs) (element : x ≡ get_or xs middle x) where
    at : slice_get xs middle ≡ Some x
    at = slice_get-get_or xs middle x within ∙ ap Some (sym element)

    -- the number stands here
    pub between_found : read x ≡ n → position (λ x. read x == n) xs ≡ Some middle
    between_found is =
        let r = sender_found (λ x. read x == n) xs middle x at (eq-eqb (read x) n is) in
        r.1 ∙ ap Some (rising_once read xs rising r.0 middle r.2.it x r.2.at at (eqb-true (read r.2.it) n r.2.passes ∙ sym is))

    module _ (low high : ℕ) (between : IsBetween read xs n low high) where
      same_there : (i : ℕ) (y : X) → slice_get xs i ≡ Some y → i ≡ middle → read y ≡ read x
      same_there i y there e =
          let f : Some y ≡ Some x = sym there ∙ ap (slice_get xs) e ∙ at in
          let is : y ≡ x = cc in
          ap read is

      -- it stands after this one
      pub between_after : read x < n → IsBetween read xs n (middle + 1) high
      between_after less = record {
        inside = between.inside;
        below = λ i y there h. ⊎_elim
            (λ l. omega (arith, less, rising i middle y x there at l))
            (λ l. omega (arith, less, same_there i y there (omega (arith, h, l))))
            (cases_lt i middle);
        above = between.above;
      }

      -- or before it
      pub between_before : n < read x → IsBetween read xs n low middle
      between_before more = record {
        inside = omega (arith, within);
        below = between.below;
        above = λ i y there h. ⊎_elim
            (λ l. omega (arith, more, rising middle i x y at there l))
            (λ l. omega (arith, more, same_there i y there (omega (arith, h, l))))
            (cases_lt middle i);
      }

-- How many elements have a number in a range.
use Rattle.std.proofs.Common.{◌≡◌, ◌<◌, ◌≤◌, ◌+◌, ◌&&◌, ℕ, Bool, true, false, cond, not, List, [], ◌∷◌, Some, count_by, get_or, refl, ap, ◌∙◌, arith}
use Rattle.std.specs.Prelude.{nat_lt, slice_get}
use Rattle.std.proofs.lemmas.Bool.{false≢true, lt-ltb, ltb-true}
use Rattle.std.proofs.lemmas.List.Sums.{get_or-le-sum_by, sum_by-cons}
use Rattle.std.proofs.lemmas.Option.{get_or_from_slice_get, slice_get_within}
use Rattle.rr_store.specs.Creating.{is_between}

-- a number is in one of two ranges side by side, or in none
one_split : (l m h : Bool) → (l ≡ true → m ≡ true) → (m ≡ true → h ≡ true)
    → cond (not l && h) 1 0 ≡ cond (not l && m) 1 0 + cond (not m && h) 1 0
one_split true true h a b = refl
one_split true false h a b = absurd (false≢true (a refl))
one_split false true true a b = refl
one_split false true false a b = absurd (false≢true (b refl))
one_split false false h a b = omega arith

module _ {X : Type 0} (read : X → ℕ) where
  abbrev pub between : ℕ → ℕ → List X → ℕ
  between low high xs = count_by (λ x. is_between low high (read x)) xs

  module _ (low middle high : ℕ) (up : low ≤ middle) (on : middle ≤ high) where
    -- two ranges side by side
    pub between_split : (xs : List X) → between low high xs ≡ between low middle xs + between middle high xs
    between_split [] = refl
    between_split (x ∷ xs) =
        let n = read x in
        let here = one_split (nat_lt n low) (nat_lt n middle) (nat_lt n high)
        (λ e. let below = ltb-true n low e in lt-ltb n middle (omega (arith, below, up)))
        (λ e. let below = ltb-true n middle e in lt-ltb n high (omega (arith, below, on))) in
        omega (
          arith,
          here,
          between_split xs,
          sum_by-cons (λ y. cond (is_between low high (read y)) 1 0) x xs,
          sum_by-cons (λ y. cond (is_between low middle (read y)) 1 0) x xs,
          sum_by-cons (λ y. cond (is_between middle high (read y)) 1 0) x xs,
        )

  -- a number in whose range none is, is nobody's
  pub between_one : (low : ℕ) (xs : List X) → between low (low + 1) xs < 1 → (i : ℕ) (x : X) → slice_get xs i ≡ Some x → read x ≡ low → ⊥
  between_one low xs none i x at is =
      let inside : is_between low (low + 1) (read x) ≡ true = its (nat_lt (read x) low) refl in
      let some = get_or-le-sum_by (λ y. cond (is_between low (low + 1) (read y)) 1 0) xs i x (slice_get_within xs i x at) in
      let one : ◌≡◌ {A = ℕ} (cond (is_between low (low + 1) (read (get_or xs i x))) 1 0) 1 =
      ap (λ y. cond (is_between low (low + 1) (read y)) 1 0) (get_or_from_slice_get xs i x x at) ∙ ap (λ b. cond b 1 0) inside in
      omega (arith, none, some, one)
    where
      its : (l : Bool) → nat_lt (read x) low ≡ l → is_between low (low + 1) (read x) ≡ true
      its true e = absurd (let below = ltb-true (read x) low e in omega (arith, below, is))
      its false e = ap (λ l. not l && nat_lt (read x) (low + 1)) e ∙ lt-ltb (read x) (low + 1) (omega (arith, is))

-- Counts of what passes a test: in parts, in bins, and of what lists hold.
use Rattle.std.proofs.Common.{◌≡◌, ℕ, suc, ◌+◌, ◌*◌, ◌≤◌, Bool, true, false, not, List, [], ◌∷◌, ◌++◌, map, length, Option, Some, None, refl, sym, ap, ◌∙◌, arith, add-mul}
use Rattle.std.specs.Prelude.{◌&&◌, ◌||◌, count_by, filter_map, flat_map}
use Rattle.std.proofs.lemmas.List.Sums.{count_by-le-length}
use Rattle.std.specs.List.{AllByRecursion, list_any, cons_option}
use Rattle.std.specs.Option.{option_map_or}
use Rattle.std.proofs.Math.Nat.{suc-mul}
use Rattle.std.proofs.lemmas.List.Sums.{sum_by-cons, sum_by-append}
use Rattle.rr_table.specs.Maps.{mark}
use Rattle.rr_table.proofs.ListFacts.{all_each}

mark_parts : (a b c : Bool) → (a ≡ true → (b || c) ≡ true) → mark a ≤ mark b + mark c
mark_parts true true c h = omega arith
mark_parts true false true h = omega arith
mark_parts true false false h = absurd (let e = h refl in cc)
mark_parts false b c h = omega arith

or_not : (a b : Bool) → a ≡ true → (b || (a && not b)) ≡ true
or_not a true e = refl
or_not a false e = ap (λ x. x && true) e

left_over : (a b c : Bool) → (a ≡ true → (b || c) ≡ true) → (a && not b) ≡ true → c ≡ true
left_over true true c h e = absurd (cc)
left_over true false c h e = h refl
left_over false b c h e = absurd (cc)

more_bins : (n m b c d : ℕ) → c ≤ m + d → m ≤ b → d ≤ n * b → c ≤ suc n * b
more_bins n m b c d h i j = omega (arith, suc-mul n b)

fails_with : (a b : Bool) → (a ≡ true → b ≡ true) → b ≡ false → a ≡ false
fails_with true b h e = sym (h refl) ∙ e
fails_with false b h e = refl

more_lists : (a c most here rest all marks : ℕ) → all ≡ here + rest → marks ≡ a + c → here ≤ a * most → rest ≤ c * most → all ≤ marks * most
more_lists a c most here rest all marks e f g h = let d = add-mul a c most in rw (e, f) (omega (arith, d))

module _ {X : Type 0} where
  -- a count, element by element
  pub count-cons : (p : X → Bool) (x : X) (xs : List X) → count_by p (x ∷ xs) ≡ mark (p x) + count_by p xs
  count-cons p x xs = sum_by-cons (λ y. mark (p y)) x xs

  -- a test that fails everywhere counts nothing
  pub count-none : (p : X → Bool) (xs : List X) → AllByRecursion (λ x. p x ≡ false) xs → count_by p xs ≡ 0
  count-none p [] h = refl
  count-none p (x ∷ xs) h = omega (arith, count-cons p x xs, ap mark h.0, count-none p xs h.1)

  -- who passes a test passes one of two others
  pub count-parts : (p q r : X → Bool) → ((x : X) → p x ≡ true → (q x || r x) ≡ true) → (xs : List X)
      → count_by p xs ≤ count_by q xs + count_by r xs
  count-parts p q r h [] = omega arith
  count-parts p q r h (x ∷ xs) =
      omega (arith, count-cons p x xs, count-cons q x xs, count-cons r x xs, mark_parts (p x) (q x) (r x) (h x), count-parts p q r h xs)

  -- who passes a test lies in one of some bins, each of which has at most so many
  pub count-bins : {B : Type 0} (inside : B → X → Bool) (most : ℕ) (p : X → Bool) (bins : List B) (xs : List X)
      → AllByRecursion (λ x. p x ≡ true → list_any (λ k. inside k x) bins ≡ true) xs
      → AllByRecursion (λ k. count_by (inside k) xs ≤ most) bins
      → count_by p xs ≤ length bins * most
  count-bins inside most p [] xs some few =
      let none = count-none p xs (all_each _ _ (λ x h. fails_with (p x) false h refl) xs some) in omega (arith, none)
  count-bins inside most p (k ∷ bins) xs some few =
      more_bins (length bins) (count_by (inside k) xs) most (count_by p xs) (count_by (λ x. p x && not (inside k x)) xs)
      (count-parts p (inside k) (λ x. p x && not (inside k x)) (λ x. or_not (p x) (inside k x)) xs)
      few.0
      (count-bins inside most (λ x. p x && not (inside k x)) bins xs
      (all_each _ _ (λ x. left_over (p x) (inside k x) (list_any (λ j. inside j x) bins)) xs some) few.1)

  -- a count of two lists
  pub count-append : (p : X → Bool) (xs ys : List X) → count_by p (xs ++ ys) ≡ count_by p xs + count_by p ys
  count-append p xs ys = sum_by-append (λ x. mark (p x)) xs ys

module _ {Y : Type 0} where
  split : (p : Y → Bool) (o : Option Y) (ys : List Y) → count_by p (cons_option o ys) ≡ mark (option_map_or p o false) + count_by p ys
  split p None ys = omega arith
  split p (Some y) ys = count-cons p y ys

module _ {X Y : Type 0} where
  -- a count of what a list is mapped to
  pub count-map : (f : X → Y) (p : Y → Bool) (xs : List X) → count_by p (map f xs) ≡ count_by (λ x. p (f x)) xs
  count-map f p [] = refl
  count-map f p (x ∷ xs) = omega (arith, count-cons p (f x) (map f xs), count-cons (λ y. p (f y)) x xs, count-map f p xs)

  -- a count of what a list gives
  pub count-filter_map : (f : X → Option Y) (p : Y → Bool) (xs : List X)
      → count_by p (filter_map f xs) ≡ count_by (λ x. option_map_or p (f x) false) xs
  count-filter_map f p [] = refl
  count-filter_map f p (x ∷ xs) =
      split p (f x) (filter_map f xs) ∙ ap (λ n. mark (option_map_or p (f x) false) + n) (count-filter_map f p xs)
      ∙ sym (count-cons (λ y. option_map_or p (f y) false) x xs)

  -- what lists hold that pass a test, where those lists that have any pass a test of their own and have at most so many
  pub count-flat_map : (f : X → List Y) (p : Y → Bool) (q : X → Bool) (most : ℕ) (xs : List X)
      → AllByRecursion (λ x. (length (f x) ≤ most) × (AllByRecursion (λ y. p y ≡ true → q x ≡ true) (f x))) xs
      → count_by p (flat_map f xs) ≤ count_by q xs * most
  count-flat_map f p q most [] h = omega arith
  count-flat_map f p q most (x ∷ xs) h =
      more_lists (mark (q x)) (count_by q xs) most (count_by p (f x)) (count_by p (flat_map f xs)) (count_by p (f x ++ flat_map f xs))
      (count_by q (x ∷ xs))
      (count-append p (f x) (flat_map f xs)) (count-cons q x xs) (here (q x) refl) (count-flat_map f p q most xs h.1)
    where
      here : (b : Bool) → q x ≡ b → count_by p (f x) ≤ mark b * most
      here true e = let few = count_by-le-length p (f x) in omega (arith, few, h.0.0)
      here false e = let none = count-none p (f x) (all_each _ _ (λ y g. fails_with (p y) (q x) g e) (f x) h.0.1) in omega (arith, none)

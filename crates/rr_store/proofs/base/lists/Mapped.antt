-- What is asked of the element where a test passes, in a list and in what it is mapped to.
use Rattle.std.proofs.Common.{◌≡◌, ℕ, ◌+◌, Bool, cond, List, [], ◌∷◌, Option, None, Some, map, option_map, refl, sym, ap, ◌∙◌, subst}
use Rattle.std.specs.Prelude.{IsSome, IsSomeAnd, slice_get}
use Rattle.std.specs.List.{position, position_from}
use Rattle.std.proofs.lemmas.Option.{slice_get-map}
use Rattle.std.proofs.lemmas.Iterator.Adapters.{position_from-zero}

-- what follows from what is asked
pub some_each : {X : Type 0} (o : Option X) (R S : X → Type 0) → ((x : X) → R x → S x) → IsSomeAnd o R → IsSomeAnd o S
some_each None R S each h = h
some_each (Some x) R S each h = each x h

module _ {X Y : Type 0} (f : X → Y) where
  of_option : (o : Option X) (R : Y → Type 0) → IsSomeAnd (option_map f o) R → IsSomeAnd o (λ x. R (f x))
  of_option None R h = h
  of_option (Some x) R h = h

  to_option : (o : Option X) (R : Y → Type 0) → IsSomeAnd o (λ x. R (f x)) → IsSomeAnd (option_map f o) R
  to_option None R h = h
  to_option (Some x) R h = h

  position_from-map : (t : Y → Bool) (i : ℕ) (xs : List X) → position_from t i (map f xs) ≡ position_from (λ x. t (f x)) i xs
  position_from-map t i [] = refl
  position_from-map t i (x ∷ xs) = ap (λ o. cond (t (f x)) (Some i) o) (position_from-map t (i + 1) xs)

  -- an element stands where what it is mapped to does
  pub position-map : (t : Y → Bool) (xs : List X) → position t (map f xs) ≡ position (λ x. t (f x)) xs
  position-map t xs = position_from-zero t (map f xs) ∙ position_from-map t 0 xs ∙ sym (position_from-zero (λ x. t (f x)) xs)

  -- what is asked of the element at an index
  pub of_index : (xs : List X) (i : ℕ) (R : Y → Type 0) (S : X → Type 0) → ((x : X) → R (f x) → S x) → IsSomeAnd (slice_get (map f xs) i) R
      → IsSomeAnd (slice_get xs i) S
  of_index xs i R S each h =
      some_each (slice_get xs i) (λ x. R (f x)) S each
      (of_option (slice_get xs i) R (subst (λ o. IsSomeAnd o R) (slice_get-map f xs i) h))

  pub to_index : (xs : List X) (i : ℕ) (R : Y → Type 0) (S : X → Type 0) → ((x : X) → S x → R (f x)) → IsSomeAnd (slice_get xs i) S
      → IsSomeAnd (slice_get (map f xs) i) R
  to_index xs i R S each h =
      subst (λ o. IsSomeAnd o R) (sym (slice_get-map f xs i))
      (to_option (slice_get xs i) R (some_each (slice_get xs i) S (λ x. R (f x)) each h))

  -- where one passes, one passes
  pub some_mapped : (t : Y → Bool) (xs : List X) → IsSome (position t (map f xs)) → IsSome (position (λ x. t (f x)) xs)
  some_mapped t xs h = subst IsSome (position-map t xs) h

-- The port that sends in a sender, where a call found it.
use Rattle.std.proofs.Common.{◌≡◌, ◌<◌, ℕ, Bool, true, false, List, Option, None, Some, length, get_or, refl, sym, ap, ◌∙◌, subst, arith}
use Rattle.std.specs.Prelude.{IsSome, IsSomeAnd, slice_get, slice_set}
use Rattle.std.specs.List.{position}
use Rattle.std.proofs.lemmas.Bool.{false≢true}
use Rattle.std.proofs.lemmas.List.{get_or-set_same, length-set}
use Rattle.std.proofs.lemmas.Option.{slice_get_within, slice_get-get_or, get_or_from_slice_get}
use Rattle.rr_store.proofs.base.senders.Entries.{found_none}
use Rattle.rr_store.proofs.base.lists.Replaced.{Standing, standing, standing_nowhere}

module _ {X : Type 0} (test : X → Bool) (items : List X) where
  -- a port that passes is found, or one before it
  pub sender_found : (j : ℕ) (x : X) → slice_get items j ≡ Some x → test x ≡ true → (i : ℕ) × (position test items ≡ Some i)
      × Standing test items i
  sender_found j x at is = go (position test items) refl
    where
      go : (o : Option ℕ) → position test items ≡ o → (i : ℕ) × (position test items ≡ Some i) × Standing test items i
      go None e = absurd (false≢true (sym (found_none test items (standing_nowhere test items e) j x at) ∙ is))
      go (Some i) e = (i, e, standing test items i e)

  -- what is told of the port at the index where it was found is told of the one that is found
  pub told_at : (R : X → Type 0) (i : ℕ) → position test items ≡ Some i → IsSomeAnd (slice_get items i) R
      → IsSomeAnd (position test items) (λ j. IsSomeAnd (slice_get items j) R)
  told_at R i found told = subst (λ o. IsSomeAnd o (λ j. IsSomeAnd (slice_get items j) R)) (sym found) told

  -- which is within the list
  pub found_within : (i : ℕ) → position test items ≡ Some i → i < length items
  found_within i found = let s = standing test items i found in slice_get_within items i s.it s.at

  -- what is true of each port is true of the one that is found
  pub of_each : (R : X → Type 0) → IsSome (position test items) → ((x : X) → R x)
      → IsSomeAnd (position test items) (λ i. IsSomeAnd (slice_get items i) R)
  of_each R found each = go (position test items) refl found
    where
      go : (o : Option ℕ) → position test items ≡ o → IsSome o → IsSomeAnd o (λ i. IsSomeAnd (slice_get items i) R)
      go None e some = absurd (let f : false ≡ true = some in cc)
      go (Some i) e some =
          let it = standing test items i e in
          subst (λ o. IsSomeAnd o R) (sym it.at) (each it.it)

  module _ (i : ℕ) (x : X) (is : position test items ≡ Some i) (at : slice_get items i ≡ Some x) (R : ℕ → X → Type 0) where
    -- what is true of the port that is found
    pub of_found : IsSomeAnd (position test items) (λ j. IsSomeAnd (slice_get items j) (R j)) → R i x
    of_found all =
        let S : Option ℕ → Type 0 = λ p. IsSomeAnd p (λ j. IsSomeAnd (slice_get items j) (R j)) in
        let T : Option X → Type 0 = λ p. IsSomeAnd p (R i) in
        subst T at (subst S is all)

-- where something is asked of the element at an index, there is one
pub asked_within : {X : Type 0} (xs : List X) (i : ℕ) (R : X → Type 0) → IsSomeAnd (slice_get xs i) R → i < length xs
asked_within {X} xs i R told = go (slice_get xs i) refl told
  where
    go : (o : Option X) → slice_get xs i ≡ o → IsSomeAnd o R → i < length xs
    go None e t = absurd (let f : ⊥ = t in f)
    go (Some x) e t = slice_get_within xs i x e

module _ {X : Type 0} (xs : List X) (i : ℕ) (x : X) (read : x ≡ get_or xs i x) (R : X → Type 0) where
  -- what is asked of an element is true of the one that was read
  pub of_read : IsSomeAnd (slice_get xs i) R → R x
  of_read told = go (slice_get xs i) refl told
    where
      go : (o : Option X) → slice_get xs i ≡ o → IsSomeAnd o R → R x
      go None e t = absurd (let f : ⊥ = t in f)
      go (Some y) e t = subst R (sym (read ∙ get_or_from_slice_get xs i y x e)) t

  -- and the other way about
  pub to_read : i < length xs → R x → IsSomeAnd (slice_get xs i) R
  to_read there r = subst (λ o. IsSomeAnd o R) (sym (slice_get-get_or xs i x there)) (subst R read r)

module _ {X : Type 0} (xs ys : List X) (i : ℕ) (x : X) (set : ys ≡ slice_set xs i x) (there : i < length xs) (R : X → Type 0) where
  stands : slice_get ys i ≡ Some x
  stands =
      ap (λ zs. slice_get zs i) set ∙ slice_get-get_or (slice_set xs i x) i x (omega (arith, there, length-set xs i x))
      ∙ ap Some (get_or-set_same xs i x x there)

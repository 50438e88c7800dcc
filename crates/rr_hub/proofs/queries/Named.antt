-- The port with a number, in a list and as contracts see it.
use Rattle.std.proofs.Common.{◌≡◌, ℕ, List, Option, None, Some, find, map, option_map, refl, sym, ap, ◌∙◌, subst}
use Rattle.std.specs.Prelude.{◌==◌, IsSome, IsSomeAnd, slice_get}
use Rattle.std.specs.List.{position}
use Rattle.rr_store.proofs.base.lists.Replaced.{find_mapped, standing, standing_nowhere}

module _ {X Y : Type 0} (seen : X → Y) (id : Y → ℕ) (ports : List X) (n : ℕ) where
  -- where contracts see a port with the number, there is one
  pub named_there : (find (λ y. id y == n) (map seen ports) ≡ None → ⊥) → IsSome (position (λ x. id (seen x) == n) ports)
  named_there some = go (position (λ x. id (seen x) == n) ports) refl
    where
      go : (o : Option ℕ) → position (λ x. id (seen x) == n) ports ≡ o → IsSome o
      go (Some i) e = refl
      go None e = absurd (some (find_mapped seen (λ y. id y == n) ports
          ∙ ap (option_map seen) (standing_nowhere (λ x. id (seen x) == n) ports e)))

  -- what is told of the port at the index where it stands is true of the one that they see
  pub of_named : (index : ℕ) → position (λ x. id (seen x) == n) ports ≡ Some index → (R : Y → Type 0)
      → IsSomeAnd (slice_get ports index) (λ x. R (seen x)) → IsSomeAnd (find (λ y. id y == n) (map seen ports)) R
  of_named index is R told =
      let it = standing (λ x. id (seen x) == n) ports index is in
      subst (λ o. IsSomeAnd o R) (sym (find_mapped seen (λ y. id y == n) ports ∙ ap (option_map seen) it.found))
      (subst (λ o. IsSomeAnd o (λ x. R (seen x))) it.at told)

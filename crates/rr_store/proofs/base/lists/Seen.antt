-- What is told of the ports that a side keeps is told of them as parts.
use Rattle.std.proofs.Common.{◌≡◌, ◌≢◌, ℕ, Bool, List, Some, map, ap, ◌∙◌}
use Rattle.std.specs.Prelude.{IsSome, IsSomeAnd, slice_get}
use Rattle.std.specs.List.{position}
use Rattle.rr_store.specs.Order.{IsRising}
use Rattle.rr_store.proofs.base.lists.Adding.{mapped}
use Rattle.rr_store.proofs.base.lists.Mapped.{of_index, position-map, some_mapped, to_index}
use Rattle.rr_store.proofs.base.lists.Rising.{rising_unmapped}

module _ {X Y : Type 0} (part : X → Y) (ports : List X) where
  -- where one passes, one passes that is kept, and at the same index
  pub kept_some : (test : Y → Bool) → IsSome (position test (map part ports)) → IsSome (position (λ x. test (part x)) ports)
  kept_some test = some_mapped part test ports

  pub seen_found : (test : Y → Bool) (i : ℕ) → position (λ x. test (part x)) ports ≡ Some i → position test (map part ports) ≡ Some i
  seen_found test i found = position-map part test ports ∙ found

  -- they rise
  pub kept_rising : (read : Y → ℕ) → IsRising read (map part ports) → IsRising (λ x. read (part x)) ports
  kept_rising read = rising_unmapped part read ports

  -- none that is seen has a number that none has
  pub seen_vacant : (read : Y → ℕ) (n : ℕ) → ((i : ℕ) (x : X) → slice_get ports i ≡ Some x → read (part x) ≢ n)
      → (i : ℕ) (y : Y) → slice_get (map part ports) i ≡ Some y → read y ≢ n
  seen_vacant read n vacant i y there same =
      let found = mapped part ports i y there in
      vacant i found.0 found.1 (ap read found.2 ∙ same)

  -- what is told of the one at an index
  module _ (i : ℕ) (R : Y → Type 0) where
    pub seen_at : IsSomeAnd (slice_get ports i) (λ x. R (part x)) → IsSomeAnd (slice_get (map part ports) i) R
    seen_at = to_index part ports i R (λ x. R (part x)) (λ x h. h)

    pub kept_at : IsSomeAnd (slice_get (map part ports) i) R → IsSomeAnd (slice_get ports i) (λ x. R (part x))
    kept_at = of_index part ports i R (λ x. R (part x)) (λ x h. h)

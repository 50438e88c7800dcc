-- The lengths that bodies of a family can have.
use Rattle.std.specs.Prelude.{◌≡◌, ⊤, ℕ, Bool, true, ◌==◌}
use Rattle.std.proofs.Common.{subst}
use Rattle.rr_slots.specs.declared.family.Family.{Family}
use Rattle.rr_slots.specs.declared.family.Family.TheVariants.{Typed, Sliced}

-- whether a body can be loaned for this many elements: for one in the typed family, for any number in the sliced one
abbrev pub takes_len : Family → ℕ → Bool
takes_len Typed len = len == 1
takes_len Sliced len = true

-- whether a family is the sliced one, which distinguishes the two
abbrev IsSliced : Family → Type 0
IsSliced Typed = ⊥
IsSliced Sliced = ⊤

pub sliced_is_not_typed : Sliced ≡ Typed → ⊥
sliced_is_not_typed is = subst IsSliced is tt

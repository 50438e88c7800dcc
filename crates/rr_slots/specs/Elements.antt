-- The two kinds of bodies, as contracts see them.
use Rattle.std.specs.Prelude.{◌≡◌, ◌≤◌, zero, suc, ℕ, List, [], ◌∷◌, length, Option, None, Some, slice_set, refl}
use Rattle.std.proofs.Common.{zero-le, suc-le-suc}

-- the elements of an optional body
abbrev pub option_elements : {T : Type 0} → Option T → List T
option_elements None = []
option_elements (Some x) = x ∷ []

-- an optional body after the element at an index became another
abbrev pub with_option : {T : Type 0} → Option T → ℕ → T → Option T
with_option None index y = None
with_option (Some x) zero y = Some y
with_option (Some x) (suc index) y = Some x

pub option_elements-with_option : {T : Type 0} (body : Option T) (index : ℕ) (x : T)
    → option_elements (with_option body index x) ≡ slice_set (option_elements body) index x
option_elements-with_option None index y = refl
option_elements-with_option (Some x) zero y = refl
option_elements-with_option (Some x) (suc index) y = refl

pub option_elements-few : {T : Type 0} (body : Option T) → length (option_elements body) ≤ 1
option_elements-few None = zero-le
option_elements-few (Some x) = suc-le-suc zero-le

-- a body of any length: the loaned length, its room in elements, and the elements written
pub record SliceState (T : Type 0) : Type 0 where
  pub asked : ℕ
  pub room : ℕ
  pub elements : List T

-- a body of any length after the element at an index became another
abbrev pub with_slice_at : {T : Type 0} → SliceState T → ℕ → T → SliceState T
with_slice_at body index x = record body { elements = slice_set body.elements index x }

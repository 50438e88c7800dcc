-- Lists in order.
use Rattle.std.specs.Prelude.{◌≡◌, ◌<◌, ℕ, List, Some, slice_get}

-- the numbers that are read of the elements rise
abbrev pub IsRising : {X : Type 0} → (X → ℕ) → List X → Type 0
IsRising {X} read xs =
    (i j : ℕ) (x y : X) → slice_get xs i ≡ Some x → slice_get xs j ≡ Some y → i < j → read x < read y

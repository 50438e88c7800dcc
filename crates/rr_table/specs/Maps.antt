-- Words on finite maps from numbers.
use Rattle.std.specs.Prelude.{ℕ, ◌==◌, Bool, if◌then◌else◌, List, map, count_by}
use Rattle.std.specs.Ordering.{nat_cmp}
use Rattle.std.specs.FinMap.{FinMap, entries, from_sorted}

-- 1 where a test passes, and else 0
abbrev pub mark : Bool → ℕ
mark b = if b then 1 else 0

-- how many values of the map pass the test
abbrev pub tally : {X : Type 0} → (X → Bool) → FinMap nat_cmp X → ℕ
tally p m = count_by (λ e. p e.1) (entries m)

-- how often a number is in the list
abbrev pub times : ℕ → List ℕ → ℕ
times n ns = count_by (λ m. m == n) ns

-- the map with a function of each value in its place
unfoldable pub map_values : {X Y : Type 0} → (X → Y) → FinMap nat_cmp X → FinMap nat_cmp Y
map_values f m = from_sorted (map (λ e. (e.0, f e.1)) (entries m))

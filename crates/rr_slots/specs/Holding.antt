-- How many hold each slot.
use Rattle.std.specs.Prelude.{ℕ, ◌==◌, not, List, count_by}

-- the number of holders of each slot, the slot to be taken next if one is free, and the number of accesses
pub record Counts : Type 0 where
  pub holders : List ℕ
  pub first : ℕ
  pub looks : ℕ

-- how many slots nobody holds
abbrev pub count_free : List ℕ → ℕ
count_free holders = count_by (λ h. h == 0) holders

-- how many slots are held
abbrev pub count_held : List ℕ → ℕ
count_held holders = count_by (λ h. not (h == 0)) holders

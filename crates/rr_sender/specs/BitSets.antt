-- Sets of numbers as bits of words.
use Rattle.std.specs.Prelude.{◌≡◌, ◌≢◌, ◌⊎◌, ◌↔◌, ◌<◌, ◌≤◌, ◌+◌, ◌/◌, ◌%◌, ℕ, IsSomeAnd, Option, None, Some, Vec, length, slice_get, slice_index_or}
use Rattle.std.specs.Global.{Global}
use Rattle.std.specs.Int.{bit_at}
use Rattle.std.specs.Option.{option_map_or}
use Rattle.rr_sender.specs.declared.bit_sets.BitSets.{BitSets}

-- a word of a set; 0 if the set doesn't have it
abbrev pub word_of : BitSets → ℕ → ℕ → ℕ
word_of b set index =
    option_map_or (λ (column : Vec ℕ Global). slice_index_or column.items set 0) (slice_get b.columns.items index) 0

-- the set has this word
abbrev pub HasWord : BitSets → ℕ → ℕ → Type 0
HasWord b set index =
    IsSomeAnd (slice_get b.columns.items index) (λ (column : Vec ℕ Global). set < length column.items)

-- 1 if a number is in a set, and 0 if not
abbrev pub has : BitSets → ℕ → ℕ → ℕ
has b set number = bit_at (word_of b set (number / 64)) (number % 64)

-- after a word of a set was replaced
pub record IsWordChanged (set index word : ℕ) (old new : BitSets) : Type 0 where
  pub here : word_of new set index ≡ word
  pub elsewhere : (s i : ℕ) → (s ≢ set) ⊎ (i ≢ index) → word_of new s i ≡ word_of old s i
  pub places : (s i : ℕ) → HasWord old s i ↔ HasWord new s i
  pub columns : length new.columns.items ≡ length old.columns.items

-- after a number was added to a set, or removed
pub record IsBitChanged (bit set number : ℕ) (old new : BitSets) : Type 0 where
  pub here : has new set number ≡ bit
  pub elsewhere : (s n : ℕ) → (s ≢ set) ⊎ (n ≢ number) → has new s n ≡ has old s n
  pub words : (s i : ℕ) → (s ≢ set) ⊎ (i ≢ number / 64) → word_of new s i ≡ word_of old s i
  pub places : (s i : ℕ) → HasWord old s i ↔ HasWord new s i
  pub columns : length new.columns.items ≡ length old.columns.items

-- each of `sets` sets has a further word, for 64 more numbers
pub record IsColumnAdded (sets : ℕ) (old new : BitSets) : Type 0 where
  pub words : (s i : ℕ) → word_of new s i ≡ word_of old s i
  pub places : (s i : ℕ) → HasWord old s i → HasWord new s i
  pub more : (s : ℕ) → s < sets → HasWord new s (length old.columns.items)
  pub back : (s i : ℕ) → HasWord new s i → HasWord old s i ⊎ ((i ≡ length old.columns.items) × (s < sets))
  pub columns : length new.columns.items ≡ length old.columns.items + 1

-- the first number of a set at or after `from` in the same word
abbrev pub IsNextInWord : BitSets → ℕ → ℕ → Option ℕ → Type 0
IsNextInWord b set from (Some n) =
    (from ≤ n) × (n / 64 ≡ from / 64) × (has b set n ≡ 1) × ((m : ℕ) → from ≤ m → m < n → has b set m ≡ 0)
IsNextInWord b set from None = (m : ℕ) → from ≤ m → m / 64 ≡ from / 64 → has b set m ≡ 0

-- the first number of a set at or after `from`
abbrev pub IsFirstFrom : BitSets → ℕ → ℕ → Option ℕ → Type 0
IsFirstFrom b set from (Some n) = (from ≤ n) × (has b set n ≡ 1) × ((m : ℕ) → from ≤ m → m < n → has b set m ≡ 0)
IsFirstFrom b set from None = (m : ℕ) → from ≤ m → has b set m ≡ 0

-- Sets of senders, with a second row of sets that records which of their words are not empty.
use Rattle.std.specs.Prelude.{◌≡◌, ◌⊎◌, ◌<◌, ◌≤◌, ◌+◌, ◌*◌, ◌/◌, ◌^◌, ℕ, length}
use Rattle.rr_sender.specs.declared.bit_sets.BitSets.{BitSets}
use Rattle.rr_sender.specs.BitSets.{HasWord, has, word_of}

-- a word is known as not empty exactly if it is not empty; and each word, and nothing else, has a place for that
pub record KnowsWords (members words : BitSets) : Type 0 where
  pub noted : (set index : ℕ) → 0 < word_of members set index → has words set index ≡ 1
  pub filled : (set index : ℕ) → has words set index ≡ 1 → 0 < word_of members set index
  pub places : (set index : ℕ) → HasWord members set index → HasWord words set (index / 64)
  pub many : (length members.columns.items ≤ 64 * length words.columns.items)
      × (64 * length words.columns.items < length members.columns.items + 64)
  pub few : length members.columns.items ≤ 2 ^ 58

-- each of the first sets has a word in each column
abbrev pub IsEven : ℕ → BitSets → Type 0
IsEven sets b = (set index : ℕ) → set < sets → index < length b.columns.items → HasWord b set index

-- a sender has room in each of the first sets, which are unchanged
pub record HasRoom (sets sender : ℕ) (old new : BitSets) : Type 0 where
  pub same : (set number : ℕ) → has new set number ≡ has old set number
  pub even : IsEven sets new
  pub there : sender < 64 * length new.columns.items
  pub more : length old.columns.items ≤ length new.columns.items

-- a sender is a member of each of the first sets, and no set lost a member
pub record IsInEach (sets sender : ℕ) (old new : BitSets) : Type 0 where
  pub here : (set : ℕ) → set < sets → has new set sender ≡ 1
  pub kept : (set number : ℕ) → has old set number ≡ 1 → has new set number ≡ 1
  pub only : (set number : ℕ) → has new set number ≡ 1 → (has old set number ≡ 1) ⊎ (number ≡ sender)
  pub even : (n : ℕ) → IsEven n old → IsEven n new
  pub columns : length new.columns.items ≡ length old.columns.items

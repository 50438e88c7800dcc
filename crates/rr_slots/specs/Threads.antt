-- Slots with their holders, and the list that leads through the free ones.
use Rattle.std.specs.Prelude.{◌≡◌, zero, suc, ℕ, ◌+◌, ◌-◌, cond, ◌==◌, List, [], ◌∷◌, ◌++◌, map, count_by, slice_index_or}
use Rattle.rr_slots.specs.declared.slot.Slot.{Slot}

-- slots, and the number of accesses to them
pub record Watched : Type 0 where
  pub slots : List Slot
  pub looks : ℕ

abbrev pub watched : List Slot → ℕ → Watched
watched slots looks = record { slots = slots; looks = looks }

-- a slot with this many holders, before this one in the list
abbrev pub slot_with : ℕ → ℕ → Slot
slot_with holders next = record { holders = holders; next = next }

-- how many hold a slot
abbrev pub holders_of : Slot → ℕ
holders_of slot = slot.holders

-- the slot that is free after this one; of no meaning while it is held
abbrev pub next_of : Slot → ℕ
next_of slot = slot.next

-- n free slots, each followed by the one before it
abbrev pub all_free : ℕ → List Slot
all_free zero = []
all_free (suc n) = all_free n ++ slot_with 0 (n - 1) ∷ []

-- the n slots that the numbers lead through, from a first one on
abbrev pub thread : List ℕ → ℕ → ℕ → List ℕ
thread nexts first zero = []
thread nexts first (suc n) = first ∷ thread nexts (slice_index_or nexts first 0) n

-- how often i occurs in the list
abbrev pub times : ℕ → List ℕ → ℕ
times i [] = 0
times i (x ∷ xs) = cond (x == i) 1 0 + times i xs

-- 1 at 0, else 0
abbrev pub is_zero : ℕ → ℕ
is_zero n = cond (n == 0) 1 0

-- from first on, the numbers lead once through each free slot, and through no other
pub record LeadsThroughFree (holders nexts : List ℕ) (first free : ℕ) : Type 0 where
  pub stored : free ≡ count_by (λ h. h == 0) holders
  pub each_once : (i : ℕ) → times i (thread nexts first free) ≡ is_zero (slice_index_or holders i 1)

abbrev pub IsThreaded : List Slot → ℕ → ℕ → Type 0
IsThreaded slots first free = LeadsThroughFree (map holders_of slots) (map next_of slots) first free

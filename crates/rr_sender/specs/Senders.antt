-- The sending half of a port as contracts see it.
use Rattle.std.specs.Prelude.{◌≡◌, zero, suc, ℕ, ◌+◌, ◌-◌, Bool, not, ◌&&◌, ◌==◌, nat_le, cond, if◌then◌else◌, List, [], ◌∷◌, ◌++◌, length, drop, take, flat_map, slice_index, slice_index_or, slice_set}
use Rattle.rr_slots.specs.Pools.{Written, emptied, nothing_written, with_elements}

-- for each slot its content, the details of its message, its user header, and its number of holders apart from the
-- queues; and for each receiver, by channel, the slots in its queue and the number that it received and has not given
-- back
pub record Messages (T N H : Type 0) : Type 0 where
  pub contents : List (Written T)
  pub details : List N
  pub user_headers : List H
  pub held : List ℕ
  pub queues : List (List (List ℕ))
  pub borrowed : List (List ℕ)
  pub capacity : ℕ
  pub room : ℕ

-- how often a number occurs in a list
abbrev pub times : ℕ → List ℕ → ℕ
times i [] = 0
times i (x ∷ xs) = cond (x == i) 1 0 + times i xs

-- every entry of every queue
abbrev pub all_entries : List (List (List ℕ)) → List ℕ
all_entries queues = flat_map (λ channels. flat_map (λ queue. queue) channels) queues

-- an element of a list of lists; the default where there is none
abbrev pub at_two : {X : Type 0} → X → List (List X) → ℕ → ℕ → X
at_two default rows i j = slice_index_or (slice_index_or rows i []) j default

-- a list of lists after one element was replaced
abbrev pub set_two : {X : Type 0} → List (List X) → ℕ → ℕ → X → List (List X)
set_two rows i j x = slice_set rows i (slice_set (slice_index_or rows i []) j x)

-- whether a list of entries is full
abbrev pub is_full : ℕ → List ℕ → Bool
is_full capacity entries = nat_le capacity (length entries)

-- a list after a slot was appended; in a full list the slot replaces the oldest, or is not added
abbrev pub put : Bool → ℕ → List ℕ → ℕ → List ℕ
put overflow capacity entries slot =
    if not (is_full capacity entries) then entries ++ slot ∷ []
    else if overflow then drop 1 entries ++ slot ∷ []
    else entries

-- the entry that a new slot displaces: the oldest of a full list with overflow
abbrev pub evicted : Bool → ℕ → List ℕ → List ℕ
evicted overflow capacity entries = if overflow && is_full capacity entries then take 1 entries else []

-- the contents of the slots, where those that pass a test are emptied
abbrev pub emptied_where : {T : Type 0} → (ℕ → Bool) → List (Written T) → List (Written T)
emptied_where test [] = []
emptied_where test (w ∷ ws) = cond (test 0) (emptied w) w ∷ emptied_where (λ i. test (suc i)) ws

module _ {T N H : Type 0} where
  -- the entries to a receiver on a channel
  abbrev pub queue_at : Messages T N H → ℕ → ℕ → List ℕ
  queue_at m receiver channel = at_two [] m.queues receiver channel

  -- the number of a receiver's borrows from a channel
  abbrev pub borrowed_at : Messages T N H → ℕ → ℕ → ℕ
  borrowed_at m receiver channel = at_two 0 m.borrowed receiver channel

  -- how many handles and entries have a slot
  abbrev pub uses : Messages T N H → ℕ → ℕ
  uses m slot = slice_index m.held slot + times slot (all_entries m.queues)

  -- how many of the first n slots have a handle or an entry
  abbrev pub used_below : Messages T N H → ℕ → ℕ
  used_below m zero = 0
  used_below m (suc n) = cond (uses m n == 0) 0 1 + used_below m n

  -- how many slots have a handle or an entry
  abbrev pub used_count : Messages T N H → ℕ
  used_count m = used_below m (length m.held)

  -- after a free slot was acquired, held once, for a message of this length
  abbrev pub loaned : Messages T N H → ℕ → ℕ → N → H → Messages T N H
  loaned m slot len details user_header =
      record m {
        contents = slice_set m.contents slot (nothing_written len);
        details = slice_set m.details slot details;
        user_headers = slice_set m.user_headers slot user_header;
        held = slice_set m.held slot 1;
      }

  -- after a slot's number of holders was set
  abbrev pub with_held : Messages T N H → ℕ → ℕ → Messages T N H
  with_held m slot n = record m { held = slice_set m.held slot n }

  -- a receiver's channel has these entries
  abbrev pub with_queue : Messages T N H → ℕ → ℕ → List ℕ → Messages T N H
  with_queue m receiver channel entries = record m { queues = set_two m.queues receiver channel entries }

  -- after a receiver's number of borrows from a channel was set
  abbrev pub with_borrowed : Messages T N H → ℕ → ℕ → ℕ → Messages T N H
  with_borrowed m receiver channel n = record m { borrowed = set_two m.borrowed receiver channel n }

  -- whether a slot is one of these, and no handle and no entry has it
  abbrev pub is_left : List ℕ → Messages T N H → ℕ → Bool
  is_left slots m slot = not (times slot slots == 0) && (uses m slot == 0)

  -- each of these slots that no handle and no entry has is emptied
  abbrev pub emptied_among : List ℕ → Messages T N H → Messages T N H
  emptied_among slots m = record m { contents = emptied_where (is_left slots m) m.contents }

  -- after a slot lost one handle; it is emptied if that was its last use
  abbrev pub given_back : Messages T N H → ℕ → Messages T N H
  given_back m slot = emptied_among (slot ∷ []) (with_held m slot (slice_index m.held slot - 1))

  -- after the oldest entry of a receiver's channel was removed, and its slot emptied if that was its last use
  abbrev pub first_dropped : Messages T N H → ℕ → ℕ → Messages T N H
  first_dropped m receiver channel =
      emptied_among (take 1 (queue_at m receiver channel))
      (with_queue m receiver channel (drop 1 (queue_at m receiver channel)))

  -- after all entries of a receiver's channel were removed, and each slot emptied whose last use that was
  abbrev pub queue_cleared : Messages T N H → ℕ → ℕ → Messages T N H
  queue_cleared m receiver channel = emptied_among (queue_at m receiver channel) (with_queue m receiver channel [])

  -- after a slot was appended to a receiver's channel, and the slot of a displaced entry emptied if that was its last
  -- use
  abbrev pub put_into : Bool → Messages T N H → ℕ → ℕ → ℕ → Messages T N H
  put_into overflow m receiver channel slot =
      emptied_among (evicted overflow m.capacity (queue_at m receiver channel))
      (with_queue m receiver channel (put overflow m.capacity (queue_at m receiver channel) slot))

  -- and one handle of that slot was given back; the slot is emptied if it was not appended
  abbrev pub handed_over : Bool → Messages T N H → ℕ → ℕ → ℕ → Messages T N H
  handed_over overflow m receiver channel slot =
      emptied_among (slot ∷ evicted overflow m.capacity (queue_at m receiver channel))
      (with_held (with_queue m receiver channel (put overflow m.capacity (queue_at m receiver channel) slot)) slot
      (slice_index m.held slot - 1))

  -- the oldest entry of a receiver's channel became a borrow of the receiver
  abbrev pub taken : Messages T N H → ℕ → ℕ → ℕ → List ℕ → Messages T N H
  taken m receiver channel slot rest =
      with_borrowed (with_held (with_queue m receiver channel rest) slot (slice_index m.held slot + 1)) receiver
      channel (borrowed_at m receiver channel + 1)

  -- the content of a slot; nothing if there is no such slot
  abbrev pub content_at : Messages T N H → ℕ → Written T
  content_at m slot = slice_index_or m.contents slot (nothing_written 0)

  -- after the content of a slot changed
  abbrev pub with_changed_at : Messages T N H → ℕ → (Written T → Written T) → Messages T N H
  with_changed_at m slot change = record m { contents = slice_set m.contents slot (change (content_at m slot)) }

  -- after the content of one slot became complete, with unspecified elements
  abbrev pub CompletesAt : Messages T N H → ℕ → Messages T N H → Type 0
  CompletesAt old slot new =
      (elements : List T) × (length elements ≡ (content_at old slot).asked_len)
      × (new ≡ with_changed_at old slot (with_elements elements))

  -- after a slot's user header was replaced
  abbrev pub with_user_header : Messages T N H → ℕ → H → Messages T N H
  with_user_header m slot header = record m { user_headers = slice_set m.user_headers slot header }

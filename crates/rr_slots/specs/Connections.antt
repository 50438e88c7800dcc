-- The queues from one port to another, as contracts see them.
use Rattle.std.specs.Prelude.{◌≡◌, ◌≤◌, ℕ, Bool, true, false, ◌==◌, if◌then◌else◌, List, [], ◌∷◌, ◌++◌, Option, None, length, drop, map, replicate, slice_get, slice_set, slice_index_or, All}
use Rattle.circular_buffer.specs.Buffer.{Buffer}

-- the entries of each channel, from the oldest on, and how many each channel can have
pub record Entries : Type 0 where
  pub queues : List (List ℕ)
  pub capacity : ℕ

-- these queues, of this capacity
abbrev pub entries : List (List ℕ) → ℕ → Entries
entries queues capacity = record { queues = queues; capacity = capacity }

-- this number of channels without entries
abbrev pub no_entries : ℕ → ℕ → Entries
no_entries channels capacity = entries (replicate channels []) capacity

-- the entries of one channel
abbrev pub queue_of : Entries → ℕ → List ℕ
queue_of state channel = slice_index_or state.queues channel []

-- the entries after one channel got another queue
abbrev pub with_queue : Entries → ℕ → List ℕ → Entries
with_queue state channel queue = record state { queues = slice_set state.queues channel queue }

-- whether a queue is full
abbrev pub is_full : ℕ → List ℕ → Bool
is_full capacity queue = length queue == capacity

-- whether a queue has an entry
abbrev pub has_entries : List ℕ → Bool
has_entries [] = false
has_entries (entry ∷ queue) = true

-- a queue after an entry came to its end: a full one gave up its first, which is the entry itself where it has no
-- room at all
abbrev pub pushed : ℕ → List ℕ → ℕ → List ℕ
pushed capacity queue entry =
    if is_full capacity queue then drop 1 (queue ++ entry ∷ []) else queue ++ entry ∷ []

-- the entry that a full queue gives up for a new one: the first, which at capacity 0 is the new one; otherwise none
abbrev pub evicted : ℕ → List ℕ → ℕ → Option ℕ
evicted capacity queue entry =
    if is_full capacity queue then slice_get (queue ++ entry ∷ []) 0 else None

-- the queues of buffers
abbrev pub queues_of : List (Buffer ℕ) → List (List ℕ)
queues_of buffers = map (λ buffer. buffer.items) buffers

-- every buffer has this capacity, and no more entries
pub record IsSound (buffers : List (Buffer ℕ)) (capacity : ℕ) : Type 0 where
  pub uniform : All (λ buffer. buffer.capacity ≡ capacity) buffers
  pub within : All (λ buffer. length buffer.items ≤ capacity) buffers

-- Buffers of one capacity, and what a connection's calls do to them.
use Rattle.std.proofs.Common.{◌≡◌, ℕ, suc, zero, ◌-◌, ◌<◌, ◌≤◌, List, [], ◌∷◌, ◌++◌, cond, length, drop, replicate, refl, sym, ap, ◌∙◌, ⊎_elim, arith, get_or}
use Rattle.std.specs.Prelude.{◌==◌, false, IsOk, OnOk, Result, Ok, Err, slice_set, All}
use Rattle.std.proofs.lemmas.Bool.{cases_eq, cases_lt, false≢true, eq-eqb, eqb-false, ne_eqb}
use Rattle.std.proofs.lemmas.List.{get_or-map, length-map, map-set, length_push, length-drop}
use Rattle.std.proofs.lemmas.List.Elements.{All-set, All-replicate}
use Rattle.circular_buffer.specs.Buffer.{Buffer, buffer, keep_last}
use Rattle.rr_slots.specs.Connections.{Entries, entries, queue_of, with_queue, pushed, queues_of, IsSound}

-- what a buffer keeps of a push is what the queue keeps
kept : (capacity : ℕ) (queue : List ℕ) (entry : ℕ) → length queue ≤ capacity
    → keep_last capacity (queue ++ entry ∷ []) ≡ pushed capacity queue entry
kept capacity queue entry short = ⊎_elim
    (λ e. ap (λ n. drop n (queue ++ entry ∷ [])) (let z : length (queue ++ entry ∷ []) - capacity ≡ 1 = omega
    (arith, length_push queue entry) in z)
    ∙ sym (ap (λ b. cond b (drop 1 (queue ++ entry ∷ [])) (queue ++ entry ∷ [])) (eq-eqb (length queue) capacity e)))
    (λ n. ap (λ k. drop k (queue ++ entry ∷ [])) (let z : length (queue ++ entry ∷ []) - capacity ≡ 0 = omega
    (arith, length_push queue entry) in z)
    ∙ sym (ap (λ b. cond b (drop 1 (queue ++ entry ∷ [])) (queue ++ entry ∷ [])) (ne_eqb (length queue) capacity n)))
    (cases_eq (length queue) capacity)

-- and all of it where there is room
pub pushed_open : (capacity : ℕ) (queue : List ℕ) (entry : ℕ) → length queue < capacity
    → pushed capacity queue entry ≡ queue ++ entry ∷ []
pushed_open capacity queue entry room =
    ap (λ b. cond b (drop 1 (queue ++ entry ∷ [])) (queue ++ entry ∷ []))
    (ne_eqb (length queue) capacity (λ e. omega (arith, e, room)))

-- a new connection
pub sound-empty : (channels capacity : ℕ) → IsSound (replicate channels (buffer [] capacity)) capacity
sound-empty channels capacity = record {
  uniform = All-replicate (λ (b : Buffer ℕ). b.capacity ≡ capacity) channels (buffer [] capacity) refl;
  within = All-replicate (λ (b : Buffer ℕ). length b.items ≤ capacity) channels (buffer [] capacity) (omega arith);
}

pub queues-empty : (channels capacity : ℕ) → queues_of (replicate channels (buffer [] capacity)) ≡ replicate channels []
queues-empty zero capacity = refl
queues-empty (suc channels) capacity = ap (λ queues. [] ∷ queues) (queues-empty channels capacity)

-- buffers are empty where their queues are
pub empty-buffers : (buffers : List (Buffer ℕ)) → All (λ queue. queue ≡ []) (queues_of buffers) → All (λ (b : Buffer ℕ). b.items ≡ []) buffers
empty-buffers buffers h k d inside =
    sym (get_or-map (λ b. b.items) buffers k d [] inside)
    ∙ h k [] (omega (arith, inside, length-map buffers (λ (b : Buffer ℕ). b.items)))

-- what is so where a call succeeds, where it does
pub by_ok : {A E : Type 0} (r : Result A E) (X : Type 0) → IsOk r → OnOk r X → X
by_ok (Ok a) X is x = x
by_ok (Err e) X is x = absurd (false≢true is)

-- what a call finds at a channel, and what it leaves in its place
module _ (buffers : List (Buffer ℕ)) (capacity i : ℕ) (state : Entries) (sound : IsSound buffers capacity)
    (view : entries (queues_of buffers) capacity ≡ state) (inside : i < length state.queues) (old : Buffer ℕ)
    (is : old ≡ get_or buffers i old) where
  at_queues : i < length (queues_of buffers)
  at_queues = omega (arith, inside, ap (λ s. length s.queues) view)

  at_buffers : i < length buffers
  at_buffers = omega (arith, at_queues, length-map buffers (λ (b : Buffer ℕ). b.items))

  queue_at : get_or (queues_of buffers) i [] ≡ old.items
  queue_at = get_or-map (λ b. b.items) buffers i old [] at_buffers ∙ ap (λ b. b.items) (sym is)

  capacity_at : old.capacity ≡ capacity
  capacity_at = ap (λ b. b.capacity) is ∙ sound.uniform i old at_buffers

  length_at : length old.items ≤ capacity
  length_at = omega (arith, ap (λ (b : Buffer ℕ). length b.items) is, sound.within i old at_buffers)

  -- a queue that is not full has room
  room_at : (length old.items == old.capacity) ≡ false → length old.items < capacity
  room_at fresh = ⊎_elim
      (λ h. h)
      (λ h. absurd (eqb-false (length old.items) old.capacity fresh (omega (arith, h, length_at, capacity_at))))
      (cases_lt (length old.items) capacity)

  -- and one that has room is not full
  pub fresh_at : length (queue_of state i) < state.capacity → (length old.items == old.capacity) ≡ false
  fresh_at room = ne_eqb (length old.items) old.capacity (λ e. omega (
    arith,
    room,
    e,
    ap length (sym queue_at ∙ ap (λ s. queue_of s i) view),
    capacity_at,
    ap (λ (s : Entries). s.capacity) view,
  ))

  room_in : (length old.items == old.capacity) ≡ false → length old.items < old.capacity
  room_in fresh = omega (arith, room_at fresh, capacity_at)

  -- so it keeps all that it had
  kept_all : (entry : ℕ) → (length old.items == old.capacity) ≡ false
      → keep_last old.capacity (old.items ++ entry ∷ []) ≡ old.items ++ entry ∷ []
  kept_all entry fresh = ap (λ k. drop k (old.items ++ entry ∷ []))
      (let z : length (old.items ++ entry ∷ []) - old.capacity ≡ 0 = omega
      (arith, length_push old.items entry, room_at fresh, capacity_at) in z)

  pub entered : {A E : Type 0} (r : Result A E) (new : Buffer ℕ) (entry : ℕ) → (length old.items == old.capacity) ≡ false
      → (length old.items < old.capacity → IsOk r) → OnOk r (new ≡ buffer (old.items ++ entry ∷ []) old.capacity)
      → new ≡ buffer (keep_last old.capacity (old.items ++ entry ∷ [])) old.capacity
  entered r new entry fresh ok told =
      by_ok r (new ≡ buffer (old.items ++ entry ∷ []) old.capacity) (ok (room_in fresh)) told
      ∙ ap (λ items. buffer items old.capacity) (sym (kept_all entry fresh))

  module _ (new : Buffer ℕ) where
    sound-set : new.capacity ≡ capacity → length new.items ≤ capacity → IsSound (slice_set buffers i new) capacity
    sound-set same short = record {
      uniform = All-set (λ (b : Buffer ℕ). b.capacity ≡ capacity) buffers i new same sound.uniform;
      within = All-set (λ (b : Buffer ℕ). length b.items ≤ capacity) buffers i new short sound.within;
    }

    state-set : entries (queues_of (slice_set buffers i new)) capacity ≡ with_queue state i new.items
    state-set =
        ap (λ queues. entries queues capacity) (map-set (λ (b : Buffer ℕ). b.items) buffers i new)
        ∙ ap (λ s. with_queue s i new.items) view

    queue_of_state : old.items ≡ queue_of state i
    queue_of_state = sym queue_at ∙ ap (λ s. queue_of s i) view

    -- after a pop
    module _ (popped : new ≡ buffer (drop 1 old.items) old.capacity) where
      pub sound-popped : IsSound (slice_set buffers i new) capacity
      sound-popped = sound-set
          (ap (λ b. b.capacity) popped ∙ capacity_at)
          (omega (arith, ap (λ (b : Buffer ℕ). length b.items) popped, length-drop 1 old.items, length_at))

      pub state-popped : entries (queues_of (slice_set buffers i new)) capacity ≡ with_queue state i (drop 1 (queue_of state i))
      state-popped = state-set ∙ ap (with_queue state i) (ap (λ b. b.items) popped ∙ ap (drop 1) queue_of_state)

    -- after a push
    module _ (entry : ℕ) (is_pushed : new ≡ buffer (keep_last old.capacity (old.items ++ entry ∷ [])) old.capacity) where
      items_pushed : new.items ≡ keep_last capacity (old.items ++ entry ∷ [])
      items_pushed = ap (λ b. b.items) is_pushed ∙ ap (λ k. keep_last k (old.items ++ entry ∷ [])) capacity_at

      pub sound-pushed : IsSound (slice_set buffers i new) capacity
      sound-pushed = sound-set
          (ap (λ b. b.capacity) is_pushed ∙ capacity_at)
          (omega (arith, ap length items_pushed, length-drop (length (old.items ++ entry ∷ []) - capacity) (old.items ++ entry ∷ [])))

      pub state-pushed : entries (queues_of (slice_set buffers i new)) capacity ≡ with_queue state i
          (pushed state.capacity (queue_of state i) entry)
      state-pushed =
          state-set
          ∙ ap (with_queue state i) (items_pushed ∙ kept capacity old.items entry length_at
          ∙ ap (λ queue. pushed capacity queue entry) queue_of_state)
          ∙ ap (λ s. with_queue state i (pushed s.capacity (queue_of state i) entry)) view

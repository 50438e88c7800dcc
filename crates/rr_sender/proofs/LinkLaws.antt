-- What a call on one link does to all of them.
use Rattle.std.proofs.Common.{◌≡◌, ℕ, suc, zero, ◌<◌, ◌≤◌, List, [], ◌∷◌, length, map, replicate, get_or, All, refl, sym, ap, ◌∙◌, arith}
use Rattle.std.specs.Prelude.{slice_set}
use Rattle.std.proofs.Math.Seq.{map-set_same}
use Rattle.std.proofs.lemmas.List.{map-set, get_or-map, get_or_default, length-map}
use Rattle.std.proofs.lemmas.List.Elements.{All-head, All-tail, All-map}
use Rattle.rr_slots.specs.Connections.{no_entries}
use Rattle.rr_sender.specs.declared.links.Link.{Link}
use Rattle.rr_sender.specs.Senders.{at_two, set_two}
use Rattle.rr_sender.specs.Links.{sent, nothing_sent, with_entries, with_count, queues_of, borrowed_of, IsLinked}

-- a receiver that contracts see has a link
pub is_inside : (links : List Link) (receiver : ℕ) → receiver < length (queues_of links) → receiver < length links
is_inside links receiver h = omega (arith, h, length-map links (λ (l : Link). l.connection.queues))

module _ (links : List Link) (receiver : ℕ) (link : Link) (inside : receiver < length links) (is : link ≡ get_or links receiver link) where
  queues_at : link.connection.queues ≡ get_or (queues_of links) receiver []
  queues_at = sym (get_or-map (λ (l : Link). l.connection.queues) links receiver link [] inside
      ∙ ap (λ (l : Link). l.connection.queues) (sym is))

  borrowed_at : link.borrowed.items ≡ get_or (borrowed_of links) receiver []
  borrowed_at = sym (get_or-map (λ (l : Link). l.borrowed.items) links receiver link [] inside
      ∙ ap (λ (l : Link). l.borrowed.items) (sym is))

  -- what stands in a queue, and how many are borrowed
  pub queue_is : (channel : ℕ) → get_or link.connection.queues channel [] ≡ at_two [] (queues_of links) receiver channel
  queue_is channel = ap (λ row. get_or row channel []) queues_at

  pub count_is : (channel : ℕ) → get_or link.borrowed.items channel 0 ≡ at_two 0 (borrowed_of links) receiver channel
  count_is channel = ap (λ row. get_or row channel 0) borrowed_at

  module _ (capacity : ℕ) where
    -- room that contracts see is there
    pub room_at : IsLinked links capacity → (channel : ℕ) → length (at_two [] (queues_of links) receiver channel) < capacity
        → length (get_or link.connection.queues channel []) < link.connection.capacity
    room_at sound channel room = omega (
      arith,
      room,
      ap length (queue_is channel),
      ap (λ (l : Link). l.connection.capacity) is,
      sound.uniform receiver link inside,
    )

    -- a count that a call finds
    pub counted_at : IsLinked links capacity → (channel count : ℕ) → channel < length (get_or (queues_of links) receiver [])
        → count ≡ get_or link.borrowed.items channel count → count ≡ at_two 0 (borrowed_of links) receiver channel
    counted_at sound channel count within found =
        found ∙ get_or_default link.borrowed.items channel count 0 (omega (
          arith,
          within,
          ap (λ queues. length queues) queues_at,
          ap (λ (l : Link). length l.connection.queues) is,
          ap (λ (l : Link). length l.borrowed.items) is,
          sound.counts receiver link inside,
        )) ∙ count_is channel

  module _ (capacity : ℕ) (after : Link) where
    -- the queues after one changed, and the counts
    queues-set : (channel : ℕ) (queue : List ℕ) → after.connection.queues ≡ slice_set link.connection.queues channel queue
        → queues_of (slice_set links receiver after) ≡ set_two (queues_of links) receiver channel queue
    queues-set channel queue changed =
        map-set (λ (l : Link). l.connection.queues) links receiver after
        ∙ ap (λ row. slice_set (queues_of links) receiver row) (changed ∙ ap (λ row. slice_set row channel queue) queues_at)

    counts-set : (channel n : ℕ) → after.borrowed.items ≡ slice_set link.borrowed.items channel n
        → borrowed_of (slice_set links receiver after) ≡ set_two (borrowed_of links) receiver channel n
    counts-set channel n changed =
        map-set (λ (l : Link). l.borrowed.items) links receiver after
        ∙ ap (λ row. slice_set (borrowed_of links) receiver row) (changed ∙ ap (λ row. slice_set row channel n) borrowed_at)

    -- one queue changed
    pub queue-set : (channel : ℕ) (queue : List ℕ) → after.connection.queues ≡ slice_set link.connection.queues channel queue
        → after.borrowed.items ≡ link.borrowed.items
        → sent (queues_of (slice_set links receiver after)) (borrowed_of (slice_set links receiver after)) capacity ≡ with_entries
        (sent (queues_of links) (borrowed_of links) capacity) receiver channel queue
    queue-set channel queue changed stays =
        ap (λ queues. sent queues (borrowed_of (slice_set links receiver after)) capacity)
        (queues-set channel queue changed)
        ∙ ap (λ borrowed. sent (set_two (queues_of links) receiver channel queue) borrowed capacity)
        (map-set_same (λ (l : Link). l.borrowed.items) links receiver after link (stays ∙ ap (λ (l : Link). l.borrowed.items) is))

    -- one count changed
    pub count-set : (channel n : ℕ) → after.connection.queues ≡ link.connection.queues
        → after.borrowed.items ≡ slice_set link.borrowed.items channel n
        → sent (queues_of (slice_set links receiver after)) (borrowed_of (slice_set links receiver after)) capacity ≡ with_count
        (sent (queues_of links) (borrowed_of links) capacity) receiver channel n
    count-set channel n stays changed =
        ap (λ queues. sent queues (borrowed_of (slice_set links receiver after)) capacity)
        (map-set_same (λ (l : Link). l.connection.queues) links receiver after link (stays ∙ ap (λ (l : Link). l.connection.queues) is))
        ∙ ap (λ borrowed. sent (queues_of links) borrowed capacity)
        (counts-set channel n changed)

    -- both changed
    pub both-set : (channel : ℕ) (queue : List ℕ) (n : ℕ) → after.connection.queues ≡ slice_set link.connection.queues channel queue
        → after.borrowed.items ≡ slice_set link.borrowed.items channel n
        → sent (queues_of (slice_set links receiver after)) (borrowed_of (slice_set links receiver after)) capacity ≡ with_count
        (with_entries (sent (queues_of links) (borrowed_of links) capacity) receiver channel queue) receiver channel n
    both-set channel queue n changed counted =
        ap (λ queues. sent queues (borrowed_of (slice_set links receiver after)) capacity)
        (queues-set channel queue changed)
        ∙ ap (λ borrowed. sent (set_two (queues_of links) receiver channel queue) borrowed capacity)
        (counts-set channel n counted)

-- every queue of every link is within the capacity
pub all_within : (links : List Link) (capacity : ℕ) → IsLinked links capacity
    → All (λ channels. All (λ queue. length queue ≤ capacity) channels) (queues_of links)
all_within links capacity sound = All-map (λ channels. All (λ queue. length queue ≤ capacity) channels)
    (λ (l : Link). l.connection.queues) links sound.within

-- links that are all alike
pub all_alike : {X : Type 0} (f : Link → X) (links : List Link) (n : ℕ) (x : X) → length links ≡ n → All (λ l. f l ≡ x) links
    → map f links ≡ replicate n x
all_alike f [] zero x len alike = refl
all_alike f [] (suc n) x len alike = absurd (omega (arith, len))
all_alike f (l ∷ ls) zero x len alike = absurd (omega (arith, len))
all_alike f (l ∷ ls) (suc n) x len alike = (λ i. All-head (λ k. f k ≡ x) l ls alike i ∷ all_alike f ls n x (omega (arith, len))
    (All-tail (λ k. f k ≡ x) l ls alike) i)

pub links-empty : (links : List Link) (receivers channels capacity : ℕ) → length links ≡ receivers
    → All (λ l. l.connection ≡ no_entries channels capacity) links → All (λ l. l.borrowed.items ≡ replicate channels 0) links
    → sent (queues_of links) (borrowed_of links) capacity ≡ nothing_sent receivers channels capacity
links-empty links receivers channels capacity len connections counts =
    ap (λ queues. sent queues (borrowed_of links) capacity) (all_alike (λ (l : Link). l.connection.queues) links receivers
    (replicate channels []) len (λ k d h. ap (λ e. e.queues) (connections k d h)))
    ∙ ap (λ borrowed. sent (replicate receivers (replicate channels [])) borrowed capacity)
    (all_alike (λ (l : Link). l.borrowed.items) links receivers (replicate channels 0) len counts)

-- The links from one port to its receivers, as contracts see them.
use Rattle.std.specs.Prelude.{◌≡◌, ◌≤◌, ℕ, List, [], length, map, replicate, All}
use Rattle.rr_sender.specs.Senders.{set_two}
use Rattle.rr_sender.specs.declared.links.Link.{Link}

-- for each receiver, by channel, the slots in its queue and the number of its borrows
pub record Sent : Type 0 where
  pub queues : List (List (List ℕ))
  pub borrowed : List (List ℕ)
  pub capacity : ℕ

abbrev pub sent : List (List (List ℕ)) → List (List ℕ) → ℕ → Sent
sent queues borrowed capacity = record { queues = queues; borrowed = borrowed; capacity = capacity }

-- nothing was sent
abbrev pub nothing_sent : ℕ → ℕ → ℕ → Sent
nothing_sent receivers channels capacity =
    sent (replicate receivers (replicate channels [])) (replicate receivers (replicate channels 0)) capacity

-- a receiver's channel has these entries
abbrev pub with_entries : Sent → ℕ → ℕ → List ℕ → Sent
with_entries s receiver channel entries = record s { queues = set_two s.queues receiver channel entries }

-- after the receiver's number of borrows from a channel was set
abbrev pub with_count : Sent → ℕ → ℕ → ℕ → Sent
with_count s receiver channel n = record s { borrowed = set_two s.borrowed receiver channel n }

abbrev pub queues_of : List Link → List (List (List ℕ))
queues_of links = map (λ link. link.connection.queues) links

abbrev pub borrowed_of : List Link → List (List ℕ)
borrowed_of links = map (λ link. link.borrowed.items) links

-- each connection has this capacity and no more entries, and each channel a count
pub record IsLinked (links : List Link) (capacity : ℕ) : Type 0 where
  pub uniform : All (λ link. link.connection.capacity ≡ capacity) links
  pub counts : All (λ link. length link.borrowed.items ≡ length link.connection.queues) links
  pub within : All (λ link. All (λ queue. length queue ≤ capacity) link.connection.queues) links

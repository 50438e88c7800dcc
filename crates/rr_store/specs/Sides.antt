-- One side of a core, as contracts see it, and the effects of calls on it.
use Rattle.std.specs.Prelude.{◌≡◌, length, ℕ, List, ◌∷◌, ◌++◌, [], drop, map, slice_set}
use Rattle.std.specs.List.{remove}
use Rattle.rr_slots.specs.Pools.{with_elements}
use Rattle.rr_sender.specs.Senders.{Messages, content_at, queue_at, taken, with_changed_at}
use Rattle.rr_store.specs.declared.port.LeftPort.{LeftPort}
use Rattle.rr_store.specs.Clearing.{channel_cleared}
use Rattle.rr_store.specs.Loaning.{with_messages, with_sender_at}
use Rattle.rr_store.specs.Parts.{Sender}
use Rattle.rr_store.specs.Views.{sender_of}

-- the senders of a side's ports, the ports, the ports that left in the order in which they did, and the room for them
pub record SideParts (T N H P : Type 0) : Type 0 where
  pub senders : List (Sender T N H)
  pub ports : List P
  pub left : List LeftPort
  pub room : ℕ
  pub spare_header : H

-- a side without ports
abbrev pub start_side : {T N H P : Type 0} → H → SideParts T N H P
start_side header = record { senders = []; ports = []; left = []; room = 0; spare_header = header }

module _ {T N H P : Type 0} (s : SideParts T N H P) where
  -- with a sender changed
  abbrev pub with_sender : ℕ → (Sender T N H → Sender T N H) → SideParts T N H P
  with_sender sender change = record s { senders = with_sender_at s.senders sender change }

  -- with the messages of a sender changed
  abbrev pub with_sent : ℕ → (Messages T N H → Messages T N H) → SideParts T N H P
  with_sent sender change =
      record s {
        senders =
            slice_set s.senders sender (with_messages (sender_of sender s.senders)
            (change (sender_of sender s.senders).messages));
      }

  -- with the message in a slot of a sender complete, with unspecified elements
  abbrev pub CompletesSent : ℕ → ℕ → SideParts T N H P → Type 0
  CompletesSent sender slot new =
      (elements : List T) × (length elements ≡ (content_at (sender_of sender s.senders).messages slot).asked_len)
      × (new ≡ with_sent sender (λ m. with_changed_at m slot (with_elements elements)))

  -- with the oldest entry of a queue, in this slot, taken out of it
  abbrev pub with_first_taken : ℕ → ℕ → ℕ → ℕ → SideParts T N H P
  with_first_taken sender receiver channel slot =
      with_sent sender (λ m. taken m receiver channel slot (drop 1 (queue_at m receiver channel)))

  -- with nothing in the queues from all senders to a receiver's channel
  abbrev pub with_channel_emptied : ℕ → ℕ → SideParts T N H P
  with_channel_emptied receiver channel = record s { senders = map (channel_cleared receiver channel) s.senders }

  -- without the port at an index, which is recorded as one that left
  abbrev pub without_port : ℕ → LeftPort → SideParts T N H P
  without_port index leaving = record s { ports = remove s.ports index; left = s.left ++ leaving ∷ [] }

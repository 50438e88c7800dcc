-- The sender from which a receiver takes next, and the parts of a core after a response was received.
use Rattle.std.specs.Prelude.{◌≡◌, ◌≢◌, ◌<◌, ◌≤◌, ℕ, Bool, true, false, List, [], length, drop, slice_index_or, slice_set, Option, Some, None, Result, Ok, Err}
use Rattle.rr_table.specs.TableView.{inserted}
use Rattle.rr_sender.specs.Senders.{queue_at, borrowed_at, taken}
use Rattle.rr_protocol.specs.declared.error.ReceiveError.{ReceiveError}
use Rattle.rr_store.specs.declared.handle_entry.HandleEntry.{HandleEntry}
use Rattle.rr_store.specs.declared.handle_entry.Stage.TheVariants as stage
use Rattle.rr_store.specs.Parts.{Sender, Parts}
use Rattle.rr_store.specs.Views.{sender_of}
use Rattle.rr_store.specs.Sound.{response_details, response_place}
use Rattle.rr_store.specs.Loaning.{with_messages}

module _ {T N H : Type 0} where
  -- the queue from a sender to a receiver's channel, and how many the receiver has from it
  abbrev pub queue_from : List (Sender T N H) → ℕ → ℕ → ℕ → List ℕ
  queue_from senders receiver channel sender = queue_at (sender_of sender senders).messages receiver channel

  abbrev pub borrowed_from : List (Sender T N H) → ℕ → ℕ → ℕ → ℕ
  borrowed_from senders receiver channel sender = borrowed_at (sender_of sender senders).messages receiver channel

  -- each sender has a queue to the receiver's channel
  abbrev pub Reaches : List (Sender T N H) → ℕ → ℕ → Type 0
  Reaches senders receiver channel =
      (sender : ℕ) → sender < length senders → (receiver < length (sender_of sender senders).messages.queues)
      × (channel < length (slice_index_or (sender_of sender senders).messages.queues receiver []))

  -- each sender's queues to the receiver have one for the channel
  abbrev pub HaveChannels : List (Sender T N H) → ℕ → ℕ → Type 0
  HaveChannels senders receiver channel =
      (sender : ℕ) → sender < length senders → channel
      < length (slice_index_or (sender_of sender senders).messages.queues receiver [])

  -- some sender with an entry and below the borrow limit; or all queues are empty; or each queue with an entry is at
  -- its borrow limit
  abbrev pub IsNextSender : List (Sender T N H) → ℕ → ℕ → ℕ → Result (Option ℕ) ReceiveError → Type 0
  IsNextSender senders receiver channel most (Ok (Some sender)) =
      (sender < length senders) × (0 < length (queue_from senders receiver channel sender))
      × (borrowed_from senders receiver channel sender < most)
  IsNextSender senders receiver channel most (Ok None) =
      (sender : ℕ) → sender < length senders → queue_from senders receiver channel sender ≡ []
  IsNextSender senders receiver channel most (Err ReceiveError.ExceedsMaxBorrows) =
      ((sender : ℕ) → sender < length senders → borrowed_from senders receiver channel sender < most
      → queue_from senders receiver channel sender ≡ [])
      × ((sender : ℕ) × (sender < length senders) × (most ≤ borrowed_from senders receiver channel sender)
      × (queue_from senders receiver channel sender ≢ []))
  IsNextSender senders receiver channel most (Err (ReceiveError.ConnectionFailure failure)) = ⊥

  -- the same, without a claim about the senders before `from`
  abbrev pub IsNextFrom : ℕ → List (Sender T N H) → ℕ → ℕ → ℕ → Result (Option ℕ) ReceiveError → Type 0
  IsNextFrom from senders receiver channel most (Ok (Some sender)) =
      IsNextSender senders receiver channel most (Ok (Some sender))
  IsNextFrom from senders receiver channel most (Ok None) =
      (sender : ℕ) → from ≤ sender → sender < length senders → queue_from senders receiver channel sender ≡ []
  IsNextFrom from senders receiver channel most (Err ReceiveError.ExceedsMaxBorrows) =
      ((sender : ℕ) → from ≤ sender → sender < length senders → borrowed_from senders receiver channel sender < most
      → queue_from senders receiver channel sender ≡ [])
      × ((sender : ℕ) × (sender < length senders) × (most ≤ borrowed_from senders receiver channel sender)
      × (queue_from senders receiver channel sender ≢ []))
  IsNextFrom from senders receiver channel most (Err (ReceiveError.ConnectionFailure failure)) = ⊥

module _ {T N H : Type 0} (senders : List (Sender T N H)) (receiver channel most from : ℕ) where
  -- none of the senders at or after `from` and below `n` has an entry and room; and whether one has an entry
  pub record IsLookedThrough (n : ℕ) (is_at_limit : Bool) : Type 0 where
    pub passed : (sender : ℕ) → from ≤ sender → sender < n → borrowed_from senders receiver channel sender < most
        → queue_from senders receiver channel sender ≡ []
    pub clear : is_at_limit ≡ false → (sender : ℕ) → from ≤ sender → sender < n
        → queue_from senders receiver channel sender ≡ []
    pub at_limit : is_at_limit ≡ true
        → (sender : ℕ) × (sender < n) × (sender < length senders)
        × (most ≤ borrowed_from senders receiver channel sender) × (queue_from senders receiver channel sender ≢ [])

module _ {Q QH P PH K : Type 0} (p : Parts Q QH P PH K) where
  -- the handle of a response that was received
  abbrev pub received_held : ℕ → ℕ → HandleEntry
  received_held sender slot = record { stage = stage.Response; sender = sender; slot = slot }

  -- the oldest response of a queue, in this slot, was taken out of it
  abbrev pub with_taken_response : ℕ → ℕ → ℕ → ℕ → Parts Q QH P PH K
  with_taken_response sender receiver channel slot =
      record p {
        server_senders = slice_set p.server_senders sender
            (with_messages (sender_of sender p.server_senders)
            (taken (sender_of sender p.server_senders).messages receiver channel slot
            (drop 1 (queue_from p.server_senders receiver channel sender))));
      }

  -- and has a handle
  abbrev pub with_received_response : ℕ → ℕ → ℕ → ℕ → Parts Q QH P PH K
  with_received_response sender receiver channel slot =
      let q = with_taken_response sender receiver channel slot in
      record q {
        table =
            inserted p.table (response_details p sender slot).number (response_place p sender slot)
            (received_held sender slot);
      }

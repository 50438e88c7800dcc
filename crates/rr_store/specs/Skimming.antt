-- Dead requests leave the fronts of queues, and the parts of a core after a request was received.
use Rattle.std.specs.Prelude.{zero, suc, ◌≡◌, ◌↔◌, IsTrue, ◌<◌, ℕ, ◌+◌, Bool, true, false, List, [], ◌∷◌, length, drop, Option, Some, Result, Ok, IfSome, slice_get, slice_index_or, slice_set}
use Rattle.std.specs.Option.{option_map_or}
use Rattle.rr_table.specs.TableView.{TableView, inserted, value_in}
use Rattle.rr_sender.specs.Senders.{first_dropped, queue_at, taken, with_queue}
use Rattle.rr_protocol.specs.declared.error.ReceiveError.{ReceiveError}
use Rattle.rr_store.specs.declared.handle_entry.HandleEntry.{HandleEntry}
use Rattle.rr_store.specs.declared.details.RequestDetails.{RequestDetails}
use Rattle.rr_store.specs.Answering.{active_entry}
use Rattle.rr_store.specs.Loaning.{with_messages}
use Rattle.rr_store.specs.Parts.{Sender, Parts}
use Rattle.rr_store.specs.Receiving.{queue_from, borrowed_from, Reaches}
use Rattle.rr_store.specs.Sound.{active_place, is_pending}
use Rattle.rr_store.specs.Sides.{SideParts}
use Rattle.rr_store.specs.Views.{no_request, sender_of}

module _ {T H : Type 0} where
  -- whether the place of the pending response of a request in a slot has that pending response
  abbrev pub is_waited : TableView HandleEntry → Sender T RequestDetails H → ℕ → Bool
  is_waited table sender slot =
      option_map_or (λ entry. is_pending entry.stage)
      (value_in table (slice_index_or sender.messages.details slot no_request).number
      (record { row = sender.row; index = slot })) false

  -- a sender without the first request to a receiver
  abbrev pub without_first : ℕ → Sender T RequestDetails H → Sender T RequestDetails H
  without_first receiver sender =
      with_messages sender (with_queue sender.messages receiver 0 (drop 1 (queue_at sender.messages receiver 0)))

  -- and its slot is emptied if that was its last use
  abbrev pub first_skimmed : ℕ → Sender T RequestDetails H → Sender T RequestDetails H
  first_skimmed receiver sender = with_messages sender (first_dropped sender.messages receiver 0)

  -- some dead requests leave the front of a queue
  abbrev pub SkimsSender : TableView HandleEntry → ℕ → ℕ → Sender T RequestDetails H → Sender T RequestDetails H
      → Type 0
  SkimsSender table receiver zero old new = new ≡ old
  SkimsSender table receiver (suc n) old new =
      (slot : ℕ) × (slice_get (queue_at old.messages receiver 0) 0 ≡ Some slot) × (is_waited table old slot ≡ false)
      × SkimsSender table receiver n (first_skimmed receiver old) new

  -- somebody waits for the first request of a queue
  abbrev pub IsFrontAlive : TableView HandleEntry → ℕ → Sender T RequestDetails H → Type 0
  IsFrontAlive table receiver sender =
      IfSome (slice_get (queue_at sender.messages receiver 0) 0) (λ slot. is_waited table sender slot ≡ true)

  -- dead requests leave the fronts of the queues from these senders, one after another, where the receiver is below
  -- its borrow limit
  abbrev pub SkimsSenders : TableView HandleEntry → ℕ → ℕ → List ℕ → List (Sender T RequestDetails H)
      → List (Sender T RequestDetails H) → Type 0
  SkimsSenders table receiver most [] old new = new ≡ old
  SkimsSenders table receiver most (sender ∷ senders) old new =
      (slot : ℕ) × (sender < length old) × (borrowed_from old receiver 0 sender < most)
      × (slice_get (queue_from old receiver 0 sender) 0 ≡ Some slot)
      × (is_waited table (sender_of sender old) slot ≡ false)
      × SkimsSenders table receiver most senders
      (slice_set old sender (first_skimmed receiver (sender_of sender old))) new

  -- some senders were skimmed
  pub record IsSkimmed (table : TableView HandleEntry) (receiver most : ℕ)
      (old new : List (Sender T RequestDetails H)) : Type 0 where
    pub senders : List ℕ
    pub steps : SkimsSenders table receiver most senders old new
    pub many : length new ≡ length old
    pub reaches : Reaches new receiver 0

  -- and somebody waits for the first request of the resulting sender, if there is one
  pub record IsSkimmedTo (table : TableView HandleEntry) (receiver most : ℕ)
      (old new : List (Sender T RequestDetails H))
      (result : Result (Option ℕ) ReceiveError) : Type 0 where
    pub skimmed : IsSkimmed table receiver most old new
    pub front : (sender : ℕ) → result ≡ Ok (Some sender) → IsFrontAlive table receiver (sender_of sender new)

-- one sender was skimmed; and whether a request remains
pub record QueueSkimmed {T H P : Type 0} (table : TableView HandleEntry) (receiver sender : ℕ)
    (old new : SideParts T RequestDetails H P) (remaining : Bool) : Type 0 where
  pub it : Sender T RequestDetails H
  pub steps : ℕ
  pub skims : SkimsSender table receiver steps (sender_of sender old.senders) it
  pub front : IsFrontAlive table receiver it
  pub remains : IsTrue remaining ↔ (0 < length (queue_at it.messages receiver 0))
  pub is : new ≡ record old { senders = slice_set old.senders sender it }

module _ {Q QH P PH K : Type 0} (p : Parts Q QH P PH K) where
  -- the oldest request of a queue, in this slot, was taken out of it, and a number was given
  abbrev pub with_taken_request : ℕ → ℕ → ℕ → Parts Q QH P PH K
  with_taken_request sender receiver slot =
      record p {
        next = p.next + 1;
        client_senders = slice_set p.client_senders sender
            (with_messages (sender_of sender p.client_senders)
            (taken (sender_of sender p.client_senders).messages receiver 0 slot
            (drop 1 (queue_from p.client_senders receiver 0 sender))));
      }

  -- and the server has a handle of it
  abbrev pub with_received_request : ℕ → ℕ → ℕ → ℕ → Parts Q QH P PH K
  with_received_request server sender receiver slot =
      let q = with_taken_request sender receiver slot in
      record q {
        table =
            inserted p.table p.next (active_place p sender slot server) (active_entry server sender slot 0);
      }

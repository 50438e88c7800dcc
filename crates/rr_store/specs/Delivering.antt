-- The queue that a response reaches, and a sender after the response was appended to it.
use Rattle.std.specs.Prelude.{◌<◌, ℕ, Bool, false, not, ◌&&◌, if◌then◌else◌, List, [], length, Option, Some, None, IfSome, option_and_then, slice_get, slice_index_or, slice_set}
use Rattle.rr_table.specs.TableView.{TableView, value_in}
use Rattle.rr_sender.specs.Senders.{Messages, queue_at, handed_over, is_full, put, with_queue, given_back}
use Rattle.rr_protocol.specs.declared.settings.BackpressureAction.{BackpressureAction}
use Rattle.rr_protocol.specs.Backpressure.{discards}
use Rattle.rr_protocol.specs.Ports.{Port}
use Rattle.rr_store.specs.declared.handle_entry.HandleEntry.{HandleEntry}
use Rattle.rr_store.specs.declared.details.ResponseDetails.{ResponseDetails}
use Rattle.rr_store.specs.Loaning.{with_messages}
use Rattle.rr_store.specs.Parts.{Sender, Parts}
use Rattle.rr_store.specs.Sound.{is_pending}
use Rattle.rr_store.specs.Views.{sender_of}

-- the receiver of the client, if the entry in the place of its request's own handle is a pending response
abbrev pub reached_if : ℕ → Option HandleEntry → Option ℕ
reached_if receiver None = None
reached_if receiver (Some entry) = if is_pending entry.stage then Some receiver else None

-- the receiver of a response's client, if its request is alive
abbrev pub reached : {T N H : Type 0} → List (Sender T N H) → TableView HandleEntry → ResponseDetails → Option ℕ
reached senders table details =
    option_and_then (λ l. reached_if l.receiver
    (value_in table details.request (record { row = l.row; index = details.channel })))
    (slice_get senders details.client_sender)

module _ {T N H : Type 0} where
  -- whether the reached queue is full and may not overflow
  abbrev pub is_blocked_in : Messages T N H → Bool → ℕ → Option ℕ → Bool
  is_blocked_in m overflow channel None = false
  is_blocked_in m overflow channel (Some receiver) = not overflow && is_full m.capacity (queue_at m receiver channel)

  -- whether it is blocked, and the sender doesn't skip it
  abbrev pub is_refused_in : {K : Type 0} → (K → ℕ → ℕ → BackpressureAction) → Port K → Messages T N H → Bool
      → ResponseDetails → Option ℕ → Bool
  is_refused_in action port m overflow details None = false
  is_refused_in action port m overflow details (Some receiver) =
      is_blocked_in m overflow details.channel (Some receiver) && not (discards action port details.client)

  -- the reached queue exists
  abbrev pub HasQueue : Messages T N H → ℕ → Option ℕ → Type 0
  HasQueue m channel reach =
      IfSome reach (λ receiver. (receiver < length m.queues)
      × (channel < length (slice_index_or m.queues receiver [])))

  -- a sender after a slot was appended to the reached queue
  abbrev pub delivered : Messages T N H → Bool → ℕ → ℕ → Option ℕ → Messages T N H
  delivered m overflow channel slot None = m
  delivered m overflow channel slot (Some receiver) =
      with_queue m receiver channel (put overflow m.capacity (queue_at m receiver channel) slot)

  -- and after a handle's hold on the slot was given back; each slot is emptied whose last use that was
  abbrev pub handed_on : Messages T N H → Bool → ℕ → ℕ → Option ℕ → Messages T N H
  handed_on m overflow channel slot None = given_back m slot
  handed_on m overflow channel slot (Some receiver) = handed_over overflow m receiver channel slot

module _ {Q QH P PH K : Type 0} (p : Parts Q QH P PH K) where
  -- after a response in a slot of a sender was appended to the queue that it reaches
  abbrev pub with_delivered : ℕ → ℕ → ℕ → Option ℕ → Parts Q QH P PH K
  with_delivered sender channel slot reach =
      record p {
        server_senders = slice_set p.server_senders sender
            (with_messages (sender_of sender p.server_senders)
            (delivered (sender_of sender p.server_senders).messages p.limits.enable_safe_overflow_for_responses
            channel slot reach));
      }

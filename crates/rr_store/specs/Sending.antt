-- The queues that a request is appended to, and the parts of a core after it was sent.
use Rattle.std.specs.Prelude.{◌≡◌, ◌<◌, ◌≤◌, ℕ, ◌+◌, ◌-◌, ◌*◌, Bool, false, not, ◌&&◌, List, [], length, drop, map, fold, Some, slice_get, slice_set, slice_index, slice_index_or}
use Rattle.rr_table.specs.TableView.{inserted}
use Rattle.rr_table.specs.declared.place.Place.{Place}
use Rattle.rr_sender.specs.Senders.{Messages, at_two, set_two, queue_at, put, put_into, uses}
use Rattle.rr_protocol.specs.declared.settings.BackpressureAction.{BackpressureAction}
use Rattle.rr_protocol.specs.Backpressure.{discards}
use Rattle.rr_protocol.specs.Ports.{Port}
use Rattle.rr_protocol.specs.Sends.{is_blocked}
use Rattle.rr_store.specs.declared.handle_entry.HandleEntry.{HandleEntry}
use Rattle.rr_store.specs.declared.handle_entry.Stage.TheVariants as stage
use Rattle.rr_store.specs.declared.port.ServerPort.{ServerPort}
use Rattle.rr_store.specs.Parts.{Sender, ServerPart, Parts}
use Rattle.rr_store.specs.Views.{sender_of}

module _ {T N H : Type 0} where
  -- whether the queue to a receiver's first channel is full and may not overflow
  abbrev pub is_blocked_at : Bool → Messages T N H → ℕ → Bool
  is_blocked_at overflow m receiver = is_blocked overflow m.capacity (queue_at m receiver 0)

  -- whether it is blocked, and the sender doesn't skip it
  abbrev pub is_refused_at : {K : Type 0} → (K → ℕ → ℕ → BackpressureAction) → Port K → Bool → Messages T N H
      → ServerPort K → Bool
  is_refused_at action port overflow m s =
      is_blocked_at overflow m s.port.receiver && not (discards action port s.port.id)

  -- each server has a queue
  abbrev pub HasQueues : {K : Type 0} → Messages T N H → List (ServerPort K) → Type 0
  HasQueues m servers =
      (i : ℕ) (s : ServerPort _) → slice_get servers i ≡ Some s
      → (s.port.receiver < length m.queues) × (0 < length (slice_index_or m.queues s.port.receiver []))

-- the receivers of servers
abbrev pub receivers_of : {K : Type 0} → List (ServerPort K) → List ℕ
receivers_of servers = map (λ s. s.port.receiver) servers

-- the queues after a slot was put into the first one of each of these receivers
abbrev pub put_queues : Bool → ℕ → ℕ → List (List (List ℕ)) → List ℕ → List (List (List ℕ))
put_queues overflow capacity slot queues places =
    fold (λ qs receiver. set_two qs receiver 0 (put overflow capacity (at_two [] qs receiver 0) slot)) queues places

-- the sender of a port, after it
abbrev pub with_puts : {T N H : Type 0} → Bool → ℕ → Messages T N H → List ℕ → Messages T N H
with_puts overflow slot m places = record m { queues = put_queues overflow m.capacity slot m.queues places }

-- and each slot is emptied whose last use was an entry that was displaced
abbrev pub after_puts : {T N H : Type 0} → Bool → ℕ → Messages T N H → List ℕ → Messages T N H
after_puts overflow slot m places = fold (λ n receiver. put_into overflow n receiver 0 slot) m places

-- of some servers the first ones have the slot, and the others complete the queues
pub record IsPutting {T N H K : Type 0} (overflow : Bool) (slot : ℕ) (before now : Messages T N H)
    (servers : List (ServerPort K)) (i : ℕ) : Type 0 where
  pub rest : after_puts overflow slot now (receivers_of (drop i servers))
      ≡ after_puts overflow slot before (receivers_of servers)
  pub queues : HasQueues now servers
  pub capacity : now.capacity ≡ before.capacity
  pub held : slice_index now.held slot ≡ slice_index before.held slot
  pub used : uses now slot ≤ uses before slot + i

-- the marks after these were set, each given as an index and its new value
abbrev pub with_marks : List ℕ → List (ℕ × ℕ) → List ℕ
with_marks marks set = fold (λ ms mark. slice_set ms mark.0 mark.1) marks set

-- the marks of a slot for these servers
abbrev pub marks_for : {K : Type 0} → ℕ → ℕ → List (ServerPart K) → List (ℕ × ℕ)
marks_for receivers slot servers = map (λ s. (slot * receivers + s.receiver, s.port.id)) servers

-- a sender after a request in this slot was sent to these servers, which may answer it
abbrev pub queued_to : {T N H K : Type 0} → Bool → ℕ → ℕ → List (ServerPart K) → Sender T N H → Sender T N H
queued_to overflow receivers slot servers l =
    record l {
      messages =
          with_puts overflow slot l.messages (map (λ s. s.receiver) servers);
      may_answer = with_marks l.may_answer (marks_for receivers slot servers);
    }

-- and each slot is emptied whose last use was an entry that was displaced
abbrev pub after_queued : {T N H K : Type 0} → Bool → ℕ → ℕ → List (ServerPart K) → Sender T N H → Sender T N H
after_queued overflow receivers slot servers l =
    record l {
      messages =
          after_puts overflow slot l.messages (map (λ s. s.receiver) servers);
      may_answer = with_marks l.may_answer (marks_for receivers slot servers);
    }

-- a sender with one request less on loan, which waits for responses
abbrev pub with_one_sent : {T N H : Type 0} → Sender T N H → Sender T N H
with_one_sent l = record l { loans = l.loans - 1; pendings = l.pendings + 1 }

-- the handle of a request that can be sent, and the one after this many queues took it
abbrev pub request_held : ℕ → ℕ → HandleEntry
request_held sender slot = record { stage = stage.RequestMut; sender = sender; slot = slot }

abbrev pub pending_held : ℕ → ℕ → ℕ → HandleEntry
pending_held sender slot connections =
    record { stage = stage.PendingResponse false connections; sender = sender; slot = slot }

module _ {Q QH P PH K : Type 0} (p : Parts Q QH P PH K) where
  -- the receivers of the connected servers
  abbrev pub server_places : List ℕ
  server_places = map (λ s. s.receiver) p.servers

  -- a sender after a request in this slot was sent to all connected servers, which may answer it
  abbrev pub queued : {T N H : Type 0} → ℕ → Sender T N H → Sender T N H
  queued slot l = queued_to p.limits.enable_safe_overflow_for_requests p.limits.max_servers slot p.servers l

  -- its sender counts it as sent, and it has no handle
  abbrev pub with_request_in_queues : ℕ → ℕ → Parts Q QH P PH K
  with_request_in_queues sender slot =
      record p {
        client_senders = slice_set p.client_senders sender
            (with_one_sent (queued slot (sender_of sender p.client_senders)));
      }

  -- and its handle is a pending response
  abbrev pub with_request_sent : ℕ → ℕ → ℕ → ℕ → Place → Parts Q QH P PH K
  with_request_sent n sender slot connections place =
      let q = with_request_in_queues sender slot in record q
      { table = inserted p.table n place (pending_held sender slot connections) }

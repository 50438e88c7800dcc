-- What is kept of a pending response is read: its stage, and the marks of its request.
use Rattle.std.proofs.Common.{◌≡◌, ◌≤◌, ◌<◌, ◌+◌, ◌*◌, ℕ, Bool, Some, length, refl}
use Rattle.std.specs.Prelude.{IsSomeAnd, nat_lt, slice_get}
use Rattle.std.specs.FinMap as fin_map
use Rattle.rr_table.specs.TableView.{table_entry}
use Rattle.rr_table.specs.declared.place.Place.{Place}
use Rattle.rr_protocol.specs.declared.kind.Kind.{Kind}
use Rattle.rr_protocol.specs.Messages.{Pending as kept}
use Rattle.rr_protocol.specs.Queries.{kind_at}
use Rattle.rr_protocol.specs.State.{State, pending_at}
use Rattle.rr_store.specs.declared.handle_entry.HandleEntry.{HandleEntry}
use Rattle.rr_store.specs.Hints.{stage_connections}
use Rattle.rr_store.specs.Parts.{Parts, ServerPart}
use Rattle.rr_store.specs.Reaching.{IsCore}
use Rattle.rr_store.specs.Views.{sender_of, state_of, waiting_at}
use Rattle.rr_store.proofs.base.views.Counts.{listed}
use Rattle.rr_store.proofs.querying.Connected.{mark_within, marks_before, of_kept, of_pending}
use Rattle.rr_hub.proofs.Looks.{here, pending_asked, pending_stage}

-- the marks of a slot, by which a look at each server finds those that may still answer
abbrev pub HasMarks : {Q QH P PH K : Type 0} → HandleEntry → Parts Q QH P PH K → Type 0
HasMarks {K} entry p = record {
  sender : entry.sender < length p.client_senders;
  start : entry.slot * p.limits.max_servers ≤ length (sender_of entry.sender p.client_senders).may_answer;
  marks : (i : ℕ) (s : ServerPart K) → slice_get p.servers i ≡ Some s
      → entry.slot * p.limits.max_servers + s.receiver < length (sender_of entry.sender p.client_senders).may_answer;
}

module _ {Q QH P PH K : Type 0} {p : Parts Q QH P PH K} {s : State Q QH P PH K} {entry : HandleEntry} (core : IsCore p)
    (view : state_of p ≡ s) (n : ℕ)
    (looked : (place : Place) × (fin_map.get p.table.entries n ≡ Some (table_entry place entry)))
    (kind : kind_at s n ≡ Some Kind.PendingResponse) where
  -- as many marks as the slots of the sender have receivers
  pub marks_asked : HasMarks entry p
  marks_asked =
      let its = pending_asked core view n looked kind in
      let marks = length (sender_of entry.sender p.client_senders).may_answer in
      let slots = length (sender_of entry.sender p.client_senders).messages.held in
      let many = core.sound.sized.marks entry.sender its.sender in record {
        sender = its.sender;
        start = marks_before entry.slot slots p.limits.max_servers marks its.slot many;
        marks = λ i s there. mark_within entry.slot slots p.limits.max_servers s.receiver marks its.slot
            (core.sound.server_ports.placed i s.connected (listed (λ (s : ServerPart K). s.connected) p.servers i s there)) many;
      }

  -- what the marks tell
  pub told_then : (told : Bool) → told ≡ nat_lt 0 (length (waiting_at p entry.sender entry.slot))
      → IsSomeAnd (pending_at s n) (λ pending. told ≡ nat_lt 0 (length pending.servers))
  told_then told tells =
      of_pending p s n n view refl entry (here core view n looked) (λ servers. told ≡ nat_lt 0 (length servers))
      (pending_stage core view n looked kind) tells

module _ {Q QH P PH K : Type 0} (p : Parts Q QH P PH K) (core : IsCore p) (n : ℕ) (place : Place) (entry : HandleEntry)
    (at : fin_map.get p.table.entries n ≡ Some (table_entry place entry))
    (kind : kind_at (state_of p) n ≡ Some Kind.PendingResponse) where
  -- what the stage tells of the queues that took the request
  pub connections_then : (told : ℕ) → told ≡ stage_connections entry.stage
      → IsSomeAnd (pending_at (state_of p) n) (λ pending. told ≡ pending.connections)
  connections_then told tells =
      of_kept p (state_of p) n n refl refl entry (here core refl n (place, at)) (λ (pending : kept Q QH). told ≡ pending.connections)
      (pending_stage core refl n (place, at) kind) tells

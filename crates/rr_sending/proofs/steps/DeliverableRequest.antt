-- The queues that a request would reach are looked at.
use Rattle.std.proofs.Common.{◌≡◌, ◌<◌, ℕ, Bool, [], Some, length, refl, sym, ap, ◌∙◌, subst, arith}
use Rattle.std.specs.Prelude.{◌==◌, IsSomeAnd, Option, not, option_and_then, slice_get, slice_index_or}
use Rattle.std.specs.List.{list_any}
use Rattle.std.specs.FinMap as fin_map
use Rattle.rr_table.specs.TableView.{table_entry, value_at}
use Rattle.rr_table.specs.declared.place.Place.{Place}
use Rattle.rr_protocol.specs.declared.kind.Kind.{Kind}
use Rattle.rr_protocol.specs.Messages.{Handle, RequestMessage, RequestMut, as_request_mut}
use Rattle.rr_protocol.specs.Queries.{kind_at}
use Rattle.rr_protocol.specs.Sends.{is_request_deliverable}
use Rattle.rr_protocol.specs.State.{handle_at, request_at}
use Rattle.rr_store.specs.declared.handle_entry.HandleEntry.{HandleEntry}
use Rattle.rr_store.specs.declared.handle_entry.Stage.TheVariants as stage
use Rattle.rr_store.specs.Changes.{is_closed_to}
use Rattle.rr_store.specs.Parts.{ClientPart, Parts, ServerPart}
use Rattle.rr_store.specs.Reaching.{IsCore}
use Rattle.rr_store.specs.Sending.{request_held}
use Rattle.rr_store.specs.Sound.{empty_hand, is_of_request, is_request_loan}
use Rattle.rr_store.specs.Views.{handle_in, request_at as stored_at, sender_of, state_of}
use Rattle.rr_store.proofs.base.lookups.Looking.{shown}
use Rattle.rr_store.proofs.base.lookups.Placed.{value_there}
use Rattle.rr_store.proofs.base.lookups.Shown.{request_spot}
use Rattle.rr_store.proofs.base.senders.Owners.{First, port_of_sender}
use Rattle.rr_store.proofs.querying.Connected.{of_kind}
use Rattle.rr_sending.proofs.laws.request.Fields.{request_stage}
use Rattle.rr_store.proofs.base.senders.Connected.{servers_placed}
use Rattle.rr_sending.proofs.laws.request.Refusals.{deliverable_parts}

module _ {Q QH P PH K : Type 0} (p : Parts Q QH P PH K) (core : IsCore p) (n : ℕ) (place : Place) (entry : HandleEntry)
    (at : fin_map.get p.table.entries n ≡ Some (table_entry place entry))
    (kind : kind_at (state_of p) n ≡ Some Kind.RequestMut) where
  -- the handle is under its number
  here : value_at p.table n ≡ Some entry
  here = value_there p.table n place entry at

  -- it is of a request that can be sent
  stage_is : entry.stage ≡ stage.RequestMut
  stage_is = request_stage entry.stage (of_kind p (state_of p) n n refl refl Kind.RequestMut (λ e. cc) (λ e. cc) kind entry here)

  is : entry ≡ request_held entry.sender entry.slot
  is = ap (λ g. record { stage = g; sender = entry.sender; slot = entry.slot }) stage_is

  -- its sender is there
  pub sender_asked : entry.sender < length p.client_senders
  sender_asked = (request_spot p empty_hand core.sound.counted n entry here (ap is_of_request stage_is)).0

  -- each server has a queue
  pub queues_asked : (i : ℕ) (s : ServerPart K) → slice_get p.servers i ≡ Some s
      → (s.receiver < length (sender_of entry.sender p.client_senders).messages.queues)
      × (0 < length (slice_index_or (sender_of entry.sender p.client_senders).messages.queues s.receiver []))
  queues_asked i s there =
      let placed = servers_placed p empty_hand core.sound i s there in
      let shape = core.sound.sized.client_senders entry.sender sender_asked in
      (omega (arith, placed, shape.queues), omega (arith, shape.queue_channels s.receiver placed))

  -- the client that sends from the sender
  client : First (λ (c : ClientPart K). c.sender) (λ (c : ClientPart K). c.sender == entry.sender) p.clients entry.sender
  client =
      port_of_sender (λ (c : ClientPart K). c.sender) p.clients entry.sender
      ((core.sound.have_ports.handles n (table_entry place entry) at).request_loan (ap is_request_loan stage_is))

  -- the request that contracts see
  seen : handle_at (state_of p) n ≡ Some (RequestMut (stored_at p entry.sender entry.slot))
  seen = shown p n entry here ∙ ap (λ g. Some (handle_in p g entry.sender entry.slot)) stage_is

  -- what the queues tell
  pub told_then : (told : Bool) → told ≡ not (list_any (is_closed_to p entry.sender) p.servers)
      → IsSomeAnd (request_at (state_of p) n) (λ m. told ≡ is_request_deliverable (state_of p) m)
  told_then told tells =
      subst (λ (o : Option (Handle Q QH P PH)). IsSomeAnd (option_and_then as_request_mut o)
      (λ (m : RequestMessage Q QH). told ≡ is_request_deliverable (state_of p) m)) (sym seen)
      (tells ∙ sym (deliverable_parts p core.sound n entry.sender entry.slot (table_entry place entry) at is client.index client.it
      client.at client.is))

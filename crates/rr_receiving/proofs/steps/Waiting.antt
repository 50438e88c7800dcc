-- The senders of the other side are asked for entries to a port.
use Rattle.std.proofs.Common.{◌≡◌, ◌<◌, ℕ, Bool, Some, length, refl, sym, ap, ◌∙◌, subst}
use Rattle.std.specs.Prelude.{◌==◌, ◌↔◌, IsSomeAnd, IsTrue, slice_get}
use Rattle.std.specs.List.{position}
use Rattle.std.specs.FinMap as fin_map
use Rattle.std.proofs.lemmas.Bool.{eqb-true}
use Rattle.rr_table.specs.TableView.{table_entry, value_at}
use Rattle.rr_table.specs.declared.place.Place.{Place}
use Rattle.rr_protocol.specs.declared.kind.Kind.{Kind}
use Rattle.rr_protocol.specs.Messages.{Pending}
use Rattle.rr_protocol.specs.Queries.{HasRequests, HasResponse, kind_at}
use Rattle.rr_protocol.specs.State.{pending_at}
use Rattle.rr_store.specs.declared.handle_entry.HandleEntry.{HandleEntry}
use Rattle.rr_store.specs.Kinds.{stage_kind}
use Rattle.rr_store.specs.Parts.{ClientPart, Parts, ServerPart}
use Rattle.rr_store.specs.Reaching.{IsCore}
use Rattle.rr_store.specs.Receiving.{Reaches}
use Rattle.rr_store.specs.Sound.{empty_hand, is_pending}
use Rattle.rr_store.specs.Views.{sender_of, state_of}
use Rattle.rr_store.specs.Waiting.{has_entry}
use Rattle.rr_store.proofs.base.lists.Replaced.{Standing, standing}
use Rattle.rr_store.proofs.base.lookups.Placed.{value_there}
use Rattle.rr_store.proofs.base.lookups.Shown.{request_spot}
use Rattle.rr_store.proofs.base.senders.Owners.{First, client_receiver, port_of_sender}
use Rattle.rr_store.proofs.querying.Connected.{of_kind, pending_has_request, pending_stage}
use Rattle.rr_receiving.proofs.laws.Waiting.{requests_wait, responses_wait}
use Rattle.rr_receiving.proofs.laws.request.Ready.{server_reaches}
use Rattle.rr_receiving.proofs.laws.response.Refusals.{IsAsking, asking}
use Rattle.rr_store.proofs.base.senders.Connected.{reaches}

-- of a server at an index
module _ {Q QH P PH K : Type 0} (p : Parts Q QH P PH K) (core : IsCore p) (n index : ℕ)
    (told : position (λ (s : ServerPart K). s.port.id == n) p.servers ≡ Some index)
    (receiver : ℕ) (its : IsSomeAnd (slice_get p.servers index) (λ s. receiver ≡ s.receiver)) where
  server : Standing (λ (s : ServerPart K). s.port.id == n) p.servers index
  server = standing (λ (s : ServerPart K). s.port.id == n) p.servers index told

  -- the receiver is that server
  receiver_is : receiver ≡ server.it.receiver
  receiver_is = subst (λ o. IsSomeAnd o (λ (s : ServerPart K). receiver ≡ s.receiver)) server.at its

  -- each client's sender has a queue to it
  pub requests_asked : Reaches p.client_senders receiver 0
  requests_asked = subst (λ r. Reaches p.client_senders r 0) (sym receiver_is) (server_reaches p core.sound index server.it server.at)

  -- what the senders tell
  pub requests_then : (entry : Bool) → entry ≡ has_entry receiver 0 p.client_senders → IsTrue entry ↔ HasRequests (state_of p) n
  requests_then entry is =
      subst (λ id. IsTrue entry ↔ HasRequests (state_of p) id) (eqb-true server.it.port.id n server.passes)
      (requests_wait p core.sound index server.it server.at entry (is ∙ ap (λ r. has_entry r 0 p.client_senders) receiver_is))

-- of the client of a pending response
module _ {Q QH P PH K : Type 0} (p : Parts Q QH P PH K) (core : IsCore p) (n : ℕ) (place : Place) (entry : HandleEntry)
    (at : fin_map.get p.table.entries n ≡ Some (table_entry place entry))
    (kind : kind_at (state_of p) n ≡ Some Kind.PendingResponse) where
  -- the handle is under its number
  here : value_at p.table n ≡ Some entry
  here = value_there p.table n place entry at

  -- it is a pending response
  is : stage_kind entry.stage ≡ Kind.PendingResponse
  is = of_kind p (state_of p) n n refl refl Kind.PendingResponse (λ e. cc) (λ e. cc) kind entry here

  -- the client that sends from its sender
  client : First (λ (c : ClientPart K). c.sender) (λ (c : ClientPart K). c.sender == entry.sender) p.clients entry.sender
  client =
      port_of_sender (λ (c : ClientPart K). c.sender) p.clients entry.sender
      ((core.sound.have_ports.handles n (table_entry place entry) at).pending (ap is_pending (pending_stage entry.stage is).2))

  -- that client asks, on the channel of the request's slot
  asks : IsAsking p n client.index entry.slot client.it
  asks = asking p core.sound n entry here is n refl client.index client.it client.at client.is

  -- its sender is there
  pub sender_asked : entry.sender < length p.client_senders
  sender_asked = (request_spot p empty_hand core.sound.counted n entry here (pending_has_request entry.stage is)).0

  module _ (receiver : ℕ) (its : receiver ≡ (sender_of entry.sender p.client_senders).receiver) where
    -- the receiver is that client
    client_is : receiver ≡ client.it.receiver
    client_is = its ∙ client_receiver p empty_hand core.sound entry.sender client

    -- each server's sender has a queue to it
    pub responses_asked : Reaches p.server_senders receiver entry.slot
    responses_asked =
        subst (λ r. Reaches p.server_senders r entry.slot) (sym client_is)
        (reaches p core.sound client.index client.it client.at entry.slot asks.inside)

    -- what the senders tell
    pub responses_then : (told : Bool) → told ≡ has_entry receiver entry.slot p.server_senders
        → IsSomeAnd (pending_at (state_of p) n) (λ pending. IsTrue told ↔ HasResponse (state_of p) pending)
    responses_then told tells =
        subst (λ o. IsSomeAnd o (λ (pending : Pending Q QH). IsTrue told ↔ HasResponse (state_of p) pending)) (sym asks.seen)
        (responses_wait p core.sound client.index client.it client.at entry.slot n asks told
        (tells ∙ ap (λ r. has_entry r entry.slot p.server_senders) client_is))

-- A handle that a call of the core looked up: where its message is, and what of it contracts see.
use Rattle.std.proofs.Common.{◌≡◌, ◌<◌, ℕ, true, List, Some, length, refl, sym, ap, ◌∙◌, subst}
use Rattle.std.specs.Prelude.{◌⊎◌, IsSome, IsSomeAnd, option_and_then}
use Rattle.std.specs.FinMap as fin_map
use Rattle.rr_slots.specs.Pools.{Written}
use Rattle.rr_table.specs.TableView.{table_entry, value_at}
use Rattle.rr_table.specs.declared.place.Place.{Place}
use Rattle.rr_sender.specs.Senders.{content_at}
use Rattle.rr_sender.specs.Senders as sender
use Rattle.rr_protocol.specs.declared.kind.Kind.{Kind}
use Rattle.rr_protocol.specs.declared.request_header.RequestHeader.{RequestHeader}
use Rattle.rr_protocol.specs.declared.response_header.ResponseHeader.{ResponseHeader}
use Rattle.rr_protocol.specs.Messages.{RequestMessage, ResponseMessage, request_in, response_in}
use Rattle.rr_protocol.specs.Queries.{kind_at, request_header, response_header}
use Rattle.rr_protocol.specs.State.{State, active_at, handle_at, with_changed}
use Rattle.rr_protocol.specs.Writing.{with_request_content, with_response_content, with_user_header}
use Rattle.rr_store.specs.Changes.{with_requests, with_responses}
use Rattle.rr_store.specs.declared.details.RequestDetails.{RequestDetails}
use Rattle.rr_store.specs.declared.details.ResponseDetails.{ResponseDetails}
use Rattle.rr_store.specs.declared.handle_entry.HandleEntry.{HandleEntry}
use Rattle.rr_store.specs.Kinds.{stage_kind}
use Rattle.rr_store.specs.Parts.{Parts, Sender}
use Rattle.rr_store.specs.Reaching.{IsCore}
use Rattle.rr_store.specs.Sound.{empty_hand, is_of_request, is_of_response, is_request_loan, is_response_loan}
use Rattle.rr_store.specs.Sound.{request_details, response_details}
use Rattle.rr_store.specs.Views.{request_at, response_at, sender_of, state_of}
use Rattle.rr_store.proofs.base.lookups.Placed.{value_there}
use Rattle.rr_store.proofs.base.lookups.Shown.{is_request, is_response, of_request, of_response, request_spot, response_spot}
use Rattle.rr_writing.proofs.steps.Request as request
use Rattle.rr_writing.proofs.steps.Response as response
use Rattle.rr_store.proofs.querying.Connected.{active_has_request, pending_has_request, received_has_response}
use Rattle.rr_store.proofs.querying.Connected.{is_active, of_kind, of_received}

-- a sender, and a slot of it, are there
abbrev pub HasSlot : {B N H : Type 0} → HandleEntry → List (Sender B N H) → Type 0
HasSlot entry senders = record {
  sender : entry.sender < length senders;
  slot : entry.slot < length (sender_of entry.sender senders).messages.held;
}

-- the header that these details, this asked length and this node give
abbrev pub request_header_from : RequestDetails → ℕ → ℕ → RequestHeader
request_header_from details asked_len node = record {
  client_id = record { 0 = details.client };
  request_id = details.request_id;
  number_of_elements = asked_len;
  node_id = record { 0 = node };
}

-- and that of a response
abbrev pub response_header_from : ResponseDetails → ℕ → ℕ → ResponseHeader
response_header_from details asked_len node = record {
  server_id = record { 0 = details.server };
  request_id = details.request_id;
  number_of_elements = asked_len;
  node_id = record { 0 = node };
}

module _ {Q QH P PH K : Type 0} {p : Parts Q QH P PH K} {s : State Q QH P PH K} {entry : HandleEntry} (core : IsCore p)
    (view : state_of p ≡ s) (n : ℕ)
    (looked : (place : Place) × (fin_map.get p.table.entries n ≡ Some (table_entry place entry))) where
  -- the handle is under its number
  pub here : value_at p.table n ≡ Some entry
  here = value_there p.table n looked.0 entry looked.1

  -- and where
  pub under : fin_map.get p.table.entries n ≡ Some (table_entry looked.0 entry)
  under = looked.1

  -- where the request of a handle of one is
  pub slot_of_request : is_of_request entry.stage ≡ true → HasSlot entry p.client_senders
  slot_of_request is =
      let spot = request_spot p empty_hand core.sound.counted n entry here is in record { sender = spot.0; slot = spot.1 }

  -- and a response
  pub slot_of_response : is_of_response entry.stage ≡ true → HasSlot entry p.server_senders
  slot_of_response is =
      let spot = response_spot p empty_hand core.sound.counted n entry here is in record { sender = spot.0; slot = spot.1 }

  module _ (has : IsSome (option_and_then request_in (handle_at s n))) where
    -- where the request is
    pub request_slot : HasSlot entry p.client_senders
    request_slot = slot_of_request (is_request p s n n view refl entry here has)

    -- what is true of the request in the slot is true of the one that contracts see
    pub request_then : (R : RequestMessage Q QH → Type 0) → R (request_at p entry.sender entry.slot)
        → IsSomeAnd (option_and_then request_in (handle_at s n)) R
    request_then R told = of_request p s n n view refl entry here R (is_request p s n n view refl entry here has) told

    -- what its header tells
    pub request_header_then : (details : RequestDetails) → details ≡ request_details p entry.sender entry.slot
        → (body : Written Q) → body ≡ content_at (sender_of entry.sender p.client_senders).messages entry.slot
        → (asked_len : ℕ) → asked_len ≡ body.asked_len
        → IsSomeAnd (option_and_then request_in (handle_at s n))
        (λ m. request_header_from details asked_len p.node_id ≡ request_header s m)
    request_header_then details are body read asked_len asks =
        request_then (λ (m : RequestMessage Q QH). request_header_from details asked_len p.node_id ≡ request_header s m)
        (λ k. request_header_from (are k) ((asks ∙ ap (λ (w : Written Q). w.asked_len) read) k) (view k).node_id)

  -- a request that is being written is on loan, and so is one that can be sent
  pub request_loan : (kind_at s n ≡ Some Kind.RequestMutUninit) ⊎ (kind_at s n ≡ Some Kind.RequestMut)
      → is_request_loan entry.stage ≡ true
  request_loan kind =
      request.loan_either p n looked.0 entry under
      (subst (λ t. (kind_at t n ≡ Some Kind.RequestMutUninit) ⊎ (kind_at t n ≡ Some Kind.RequestMut)) (sym view) kind)

  -- where it is
  pub loaned_request : (kind_at s n ≡ Some Kind.RequestMutUninit) ⊎ (kind_at s n ≡ Some Kind.RequestMut)
      → HasSlot entry p.client_senders
  loaned_request kind = record {
    sender = request.sender_asked p n looked.0 entry under core (request_loan kind);
    slot = request.slot_asked p n looked.0 entry under core (request_loan kind);
  }

  -- its user header becomes another
  pub request_header_written : (kind_at s n ≡ Some Kind.RequestMutUninit) ⊎ (kind_at s n ≡ Some Kind.RequestMut) → (header : QH)
      → (q : Parts Q QH P PH K) → q ≡ with_requests p entry.sender (λ messages. sender.with_user_header messages entry.slot header)
      → IsCore q × (state_of q ≡ with_changed s n (with_request_content (with_user_header header)))
  request_header_written kind header q written = (
    request.header_core p n looked.0 entry under core (request_loan kind) header q written,
    request.header_view p n looked.0 entry under core (request_loan kind) header q written
        ∙ ap (λ t. with_changed t n (with_request_content (with_user_header header))) view,
  )

  module _ (has : IsSome (option_and_then response_in (handle_at s n))) where
    -- where the response is
    pub response_slot : HasSlot entry p.server_senders
    response_slot = slot_of_response (is_response p s n n view refl entry here has)

    -- what is true of the response in the slot is true of the one that contracts see
    pub response_then : (R : ResponseMessage P PH → Type 0) → R (response_at p entry.sender entry.slot)
        → IsSomeAnd (option_and_then response_in (handle_at s n)) R
    response_then R told = of_response p s n n view refl entry here R (is_response p s n n view refl entry here has) told

    -- what its header tells
    pub response_header_then : (details : ResponseDetails) → details ≡ response_details p entry.sender entry.slot
        → (body : Written P) → body ≡ content_at (sender_of entry.sender p.server_senders).messages entry.slot
        → (asked_len : ℕ) → asked_len ≡ body.asked_len
        → IsSomeAnd (option_and_then response_in (handle_at s n))
        (λ m. response_header_from details asked_len p.node_id ≡ response_header s m)
    response_header_then details are body read asked_len asks =
        response_then (λ (m : ResponseMessage P PH). response_header_from details asked_len p.node_id ≡ response_header s m)
        (λ k. response_header_from (are k) ((asks ∙ ap (λ (w : Written P). w.asked_len) read) k) (view k).node_id)

  -- a response that is being written is on loan, and so is one that can be sent
  pub response_loan : (kind_at s n ≡ Some Kind.ResponseMutUninit) ⊎ (kind_at s n ≡ Some Kind.ResponseMut)
      → is_response_loan entry.stage ≡ true
  response_loan kind =
      response.loan_either p n looked.0 entry under
      (subst (λ t. (kind_at t n ≡ Some Kind.ResponseMutUninit) ⊎ (kind_at t n ≡ Some Kind.ResponseMut)) (sym view) kind)

  -- where it is
  pub loaned_response : (kind_at s n ≡ Some Kind.ResponseMutUninit) ⊎ (kind_at s n ≡ Some Kind.ResponseMut)
      → HasSlot entry p.server_senders
  loaned_response kind = record {
    sender = response.sender_asked p n looked.0 entry under core (response_loan kind);
    slot = response.slot_asked p n looked.0 entry under core (response_loan kind);
  }

  -- its user header becomes another
  pub response_header_written : (kind_at s n ≡ Some Kind.ResponseMutUninit) ⊎ (kind_at s n ≡ Some Kind.ResponseMut) → (header : PH)
      → (q : Parts Q QH P PH K) → q ≡ with_responses p entry.sender (λ messages. sender.with_user_header messages entry.slot header)
      → IsCore q × (state_of q ≡ with_changed s n (with_response_content (with_user_header header)))
  response_header_written kind header q written = (
    response.header_core p n looked.0 entry under core (response_loan kind) header q written,
    response.header_view p n looked.0 entry under core (response_loan kind) header q written
        ∙ ap (λ t. with_changed t n (with_response_content (with_user_header header))) view,
  )

  module _ (kind : kind_at s n ≡ Some Kind.ActiveRequest) where
    -- the stage of an active request
    pub active_stage : stage_kind entry.stage ≡ Kind.ActiveRequest
    active_stage = of_kind p s n n view refl Kind.ActiveRequest (λ e. cc) (λ e. cc) kind entry here

    -- where its request is
    pub active_asked : HasSlot entry p.client_senders
    active_asked = slot_of_request (active_has_request entry.stage active_stage)

    -- the client in its details is that of the request that was received
    pub active_client : (details : RequestDetails) → details ≡ request_details p entry.sender entry.slot
        → IsSomeAnd (active_at s n) (λ active. details.client ≡ active.message.client)
    active_client details are =
        of_received p s n n view refl entry here (λ (m : RequestMessage Q QH). details.client ≡ m.client) active_stage
        (ap (λ (d : RequestDetails). d.client) are)

  module _ (kind : kind_at s n ≡ Some Kind.PendingResponse) where
    -- the stage of a pending response
    pub pending_stage : stage_kind entry.stage ≡ Kind.PendingResponse
    pending_stage = of_kind p s n n view refl Kind.PendingResponse (λ e. cc) (λ e. cc) kind entry here

    -- where its request is
    pub pending_asked : HasSlot entry p.client_senders
    pending_asked = slot_of_request (pending_has_request entry.stage pending_stage)

  -- the same of a handle that is known to be an active request
  pub received_asked : IsSome (active_at s n) → HasSlot entry p.client_senders
  received_asked has = slot_of_request (active_has_request entry.stage (is_active p s n n view refl entry here has))

  -- and the number in its details is the request's
  pub received_number : IsSome (active_at s n) → (details : RequestDetails) → details ≡ request_details p entry.sender entry.slot
      → IsSomeAnd (active_at s n) (λ active. details.number ≡ active.message.number)
  received_number has details are =
      of_received p s n n view refl entry here (λ (m : RequestMessage Q QH). details.number ≡ m.number)
      (is_active p s n n view refl entry here has) (ap (λ (d : RequestDetails). d.number) are)

  module _ (kind : kind_at s n ≡ Some Kind.Response) where
    -- a response that a client received is one
    came_is : is_of_response entry.stage ≡ true
    came_is = received_has_response entry.stage (of_kind p s n n view refl Kind.Response (λ e. cc) (λ e. cc) kind entry here)

    -- where it is
    pub came_asked : HasSlot entry p.server_senders
    came_asked = slot_of_response came_is

    -- the server in its details is that of the response
    pub came_server : (details : ResponseDetails) → details ≡ response_details p entry.sender entry.slot
        → IsSomeAnd (option_and_then response_in (handle_at s n)) (λ m. details.server ≡ m.server)
    came_server details are =
        of_response p s n n view refl entry here (λ (m : ResponseMessage P PH). details.server ≡ m.server) came_is
        (ap (λ (d : ResponseDetails). d.server) are)

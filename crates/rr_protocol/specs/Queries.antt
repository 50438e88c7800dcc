-- The answers of a hub's queries, none of which changes it.
use Rattle.std.specs.Prelude.{◌≢◌, ℕ, Bool, false, if◌then◌else◌, [], Option, Some, option_map}
use Rattle.std.specs.Option.{option_map_or}
use Rattle.rr_protocol.specs.declared.kind.Kind.{Kind}
use Rattle.rr_protocol.specs.declared.request_header.RequestHeader as declared_request
use Rattle.rr_protocol.specs.declared.response_header.ResponseHeader as declared_response
use Rattle.rr_protocol.specs.Lists.{at}
use Rattle.rr_protocol.specs.Keys.{request_key}
use Rattle.rr_protocol.specs.Messages.{RequestMessage, ResponseMessage, Pending, Handle, RequestMutUninit, RequestMut, PendingResponse, ActiveRequest, ResponseMutUninit, ResponseMut, Response, response_key}
use Rattle.rr_protocol.specs.State.{State, is_client_value, is_server_value, pending_at, handle_at}

module _ {Q QH P PH : Type 0} where
  -- the kind of a handle
  abbrev pub kind_of : Handle Q QH P PH → Kind
  kind_of (RequestMutUninit m) = Kind.RequestMutUninit
  kind_of (RequestMut m) = Kind.RequestMut
  kind_of (PendingResponse p) = Kind.PendingResponse
  kind_of (ActiveRequest a) = Kind.ActiveRequest
  kind_of (ResponseMutUninit m) = Kind.ResponseMutUninit
  kind_of (ResponseMut m) = Kind.ResponseMut
  kind_of (Response m) = Kind.Response

module _ {Q QH P PH K : Type 0} where
  -- the kind of a number: a client or a server whose port value lives, or a handle
  abbrev pub kind_at : State Q QH P PH K → ℕ → Option Kind
  kind_at s n =
      if is_client_value s n then Some Kind.Client
      else if is_server_value s n then Some Kind.Server
      else option_map kind_of (handle_at s n)

  -- whether the hint of a living request is set
  abbrev pub has_disconnect_hint : State Q QH P PH K → ℕ → Bool
  has_disconnect_hint s request = option_map_or (λ pending. pending.hint) (pending_at s request) false

  -- some list that a server receives from has an entry
  abbrev pub HasRequests : State Q QH P PH K → ℕ → Type 0
  HasRequests s server = (client : ℕ) × (at s.requests (request_key client server) ≢ [])

  -- some list that a pending response receives from has an entry
  abbrev pub HasResponse : State Q QH P PH K → Pending Q QH → Type 0
  HasResponse s pending = (server : ℕ) × (at s.responses (response_key pending server) ≢ [])

  -- the contents of a request's header
  abbrev pub request_header : State Q QH P PH K → RequestMessage Q QH → declared_request.RequestHeader
  request_header s m =
      record {
        client_id = record { 0 = m.client };
        request_id = m.request_id;
        number_of_elements = m.content.asked_len;
        node_id = record { 0 = s.node_id };
      }

  -- the contents of a response's header
  abbrev pub response_header : State Q QH P PH K → ResponseMessage P PH → declared_response.ResponseHeader
  response_header s m =
      record {
        server_id = record { 0 = m.server };
        request_id = m.request_id;
        number_of_elements = m.content.asked_len;
        node_id = record { 0 = s.node_id };
      }

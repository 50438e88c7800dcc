-- Sends of requests and of responses.
use Rattle.std.specs.Prelude.{◌≡◌, ℕ, Bool, true, false, not, ◌&&◌, nat_le, if◌then◌else◌, List, [], ◌∷◌, ◌++◌, length, drop, map, fold, count_by, is_some, Option, Some, None, Result, Ok, Err}
use Rattle.std.specs.List.{list_any}
use Rattle.std.specs.FinMap as fin_map
use Rattle.rr_protocol.specs.declared.settings.BackpressureAction.{BackpressureAction}
use Rattle.rr_protocol.specs.declared.error.SendError.{SendError}
use Rattle.rr_protocol.specs.declared.error.RequestSendError.{RequestSendError}
use Rattle.rr_protocol.specs.Lists.{Lists, at, with_at}
use Rattle.rr_protocol.specs.Keys.{RequestKey, ResponseKey, request_key, request_key_cmp, response_key_cmp}
use Rattle.rr_protocol.specs.Messages.{RequestMessage, ResponseMessage, PendingResponse}
use Rattle.rr_protocol.specs.Ports.{Client, Server}
use Rattle.rr_protocol.specs.State.{State, IsRequestMutAnd, IsResponseMutAnd, client_at}
use Rattle.rr_protocol.specs.Counts.{pending_responses, is_alive}
use Rattle.rr_protocol.specs.Backpressure.{discards}
use Rattle.rr_protocol.specs.Releases.{after_release}

module _ {X : Type 0} where
  -- whether a list is full
  abbrev pub is_full : ℕ → List X → Bool
  is_full capacity entries = nat_le capacity (length entries)

  -- whether a list is full and may not overflow
  abbrev pub is_blocked : Bool → ℕ → List X → Bool
  is_blocked overflow capacity entries = not overflow && is_full capacity entries

  -- a list after a message was sent to it: it is appended; in a full list it replaces the oldest entry, or is not
  -- added
  abbrev pub put : Bool → ℕ → List X → X → List X
  put overflow capacity entries message =
      if not (is_full capacity entries) then entries ++ message ∷ []
      else if overflow then drop 1 entries ++ message ∷ []
      else entries

module _ {Q QH P PH K : Type 0} where
  -- the lists that a request reaches: those to all connected servers
  abbrev pub request_reach : State Q QH P PH K → RequestMessage Q QH → List RequestKey
  request_reach s message = map (λ server. request_key message.client server.id) s.servers

  -- the list that a response reaches, if its client is connected and its request alive
  abbrev pub response_reach : State Q QH P PH K → ResponseMessage P PH → List ResponseKey
  response_reach s message =
      if is_some (client_at s message.client) && is_alive s message.request
      then record { server = message.server; client = message.client; channel = message.channel } ∷ []
      else []

  -- whether this list of requests is blocked
  abbrev pub is_request_list_blocked : State Q QH P PH K → RequestKey → Bool
  is_request_list_blocked s key =
      is_blocked s.limits.enable_safe_overflow_for_requests s.limits.max_active_requests_per_client
      (at s.requests key)

  -- whether this list of responses is blocked
  abbrev pub is_response_list_blocked : State Q QH P PH K → ResponseKey → Bool
  is_response_list_blocked s key =
      is_blocked s.limits.enable_safe_overflow_for_responses s.limits.max_response_buffer_size (at s.responses key)

  -- whether no list that a request reaches is blocked
  abbrev pub is_request_deliverable : State Q QH P PH K → RequestMessage Q QH → Bool
  is_request_deliverable s message = not (list_any (is_request_list_blocked s) (request_reach s message))

  -- whether no list that a response reaches is blocked
  abbrev pub is_response_deliverable : State Q QH P PH K → ResponseMessage P PH → Bool
  is_response_deliverable s message = not (list_any (is_response_list_blocked s) (response_reach s message))

  -- the lists after a request was sent to each that it reaches
  abbrev pub with_request_put : State Q QH P PH K → RequestMessage Q QH → Lists request_key_cmp (RequestMessage Q QH)
  with_request_put s message =
      fold (λ lists key. with_at lists key (put s.limits.enable_safe_overflow_for_requests
      s.limits.max_active_requests_per_client (at lists key) message))
      s.requests (request_reach s message)

  -- the lists after a response was sent to the one that it reaches
  abbrev pub with_response_put : State Q QH P PH K → ResponseMessage P PH
      → Lists response_key_cmp (ResponseMessage P PH)
  with_response_put s message =
      fold (λ lists key. with_at lists key (put s.limits.enable_safe_overflow_for_responses
      s.limits.max_response_buffer_size (at lists key) message))
      s.responses (response_reach s message)

  -- how many lists take a request
  abbrev pub connections_of : State Q QH P PH K → RequestMessage Q QH → ℕ
  connections_of s message = count_by (λ key. not (is_request_list_blocked s key)) (request_reach s message)

module _ {Q QH P PH K : Type 0} where
  -- whether some list is blocked and its client doesn't skip it
  abbrev pub is_request_refused : (K → ℕ → ℕ → BackpressureAction) → State Q QH P PH K → Client K
      → RequestMessage Q QH → Bool
  is_request_refused action s client message =
      list_any (λ key. is_request_list_blocked s key && not (discards action client.port key.server))
      (request_reach s message)

  -- whether some list is blocked and its server doesn't skip it
  abbrev pub is_response_refused : (K → ℕ → ℕ → BackpressureAction) → State Q QH P PH K → Server K
      → ResponseMessage P PH → Bool
  is_response_refused action s server message =
      list_any (λ key. is_response_list_blocked s key && not (discards action server.port key.client))
      (response_reach s message)

  -- the first reason that refuses sending a request
  abbrev pub request_send_refusal : (K → ℕ → ℕ → BackpressureAction) → State Q QH P PH K → Client K
      → RequestMessage Q QH → Option RequestSendError
  request_send_refusal action s client message =
      if nat_le s.limits.max_active_requests_per_client (pending_responses s client.id) then Some
      RequestSendError.ExceedsMaxActiveRequests
      else if is_request_refused action s client message then Some
      (RequestSendError.SendError SendError.UnableToDeliver)
      else None

  -- after a request was added to the lists that take it, and waits for the connected servers
  abbrev pub with_sent_request : State Q QH P PH K → ℕ → RequestMessage Q QH → State Q QH P PH K
  with_sent_request s n message =
      record s {
        requests = with_request_put s message;
        handles = fin_map.insert s.handles n (PendingResponse (record {
          message = message;
          hint = false;
          connections = connections_of s message;
          servers = map (λ c. c.id) s.servers;
        }));
      }

  -- a request is sent, and the result is the number of lists that took it; or it is refused, and released
  abbrev pub SendsRequest : (K → ℕ → ℕ → BackpressureAction) → State Q QH P PH K → ℕ → Result ℕ RequestSendError
      → State Q QH P PH K → Type 0
  SendsRequest action old n (Ok connections) new =
      IsRequestMutAnd old n (λ client message.
      (request_send_refusal action old client message ≡ None) × (connections ≡ connections_of old message)
      × (new ≡ with_sent_request old n message))
  SendsRequest action old n (Err error) new =
      IsRequestMutAnd old n (λ client message. (request_send_refusal action old client message ≡ Some error)
      × (new ≡ after_release old n))

  -- a response is sent and its handle released; or it is refused, and released
  abbrev pub SendsResponse : {U : Type 0} → (K → ℕ → ℕ → BackpressureAction) → State Q QH P PH K → ℕ
      → Result U SendError → State Q QH P PH K → Type 0
  SendsResponse action old n (Ok _) new =
      IsResponseMutAnd old n (λ server message.
      (is_response_refused action old server message ≡ false)
      × (new ≡ after_release (record old { responses = with_response_put old message }) n))
  SendsResponse action old n (Err error) new =
      IsResponseMutAnd old n (λ server message.
      (is_response_refused action old server message ≡ true) × (error ≡ SendError.UnableToDeliver)
      × (new ≡ after_release old n))

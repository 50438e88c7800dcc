-- Messages by value, and the handles that have them.
use Rattle.std.specs.Prelude.{ℕ, Bool, true, List, Option, Some, None}
use Rattle.rr_protocol.specs.Keys.{ResponseKey}

-- the content of a message: its user header, the loaned length, and the elements so far
pub record Content (T H : Type 0) : Type 0 where
  pub user_header : H
  pub asked_len : ℕ
  pub elements : List T

-- a request, with the client that loaned it
pub record RequestMessage (T H : Type 0) : Type 0 where
  pub number : ℕ
  pub client : ℕ
  pub request_id : ℕ
  pub channel : ℕ
  pub content : Content T H

-- a response, with the server and the active request that loaned it, and the request that it answers
pub record ResponseMessage (T H : Type 0) : Type 0 where
  pub number : ℕ
  pub server : ℕ
  pub active_request : ℕ
  pub request : ℕ
  pub request_id : ℕ
  pub client : ℕ
  pub channel : ℕ
  pub content : Content T H

-- a request that was sent, its hint, how many lists took it, and the connected servers that may still answer
pub record Pending (T H : Type 0) : Type 0 where
  pub message : RequestMessage T H
  pub hint : Bool
  pub connections : ℕ
  pub servers : List ℕ

-- a request that a server received
pub record Active (T H : Type 0) : Type 0 where
  pub message : RequestMessage T H
  pub server : ℕ

-- a handle with its message, over the elements and user headers of requests and of responses
pub data Handle (Q QH P PH : Type 0) : Type 0 where
  RequestMutUninit : RequestMessage Q QH → Handle Q QH P PH
  RequestMut : RequestMessage Q QH → Handle Q QH P PH
  PendingResponse : Pending Q QH → Handle Q QH P PH
  ActiveRequest : Active Q QH → Handle Q QH P PH
  ResponseMutUninit : ResponseMessage P PH → Handle Q QH P PH
  ResponseMut : ResponseMessage P PH → Handle Q QH P PH
  Response : ResponseMessage P PH → Handle Q QH P PH

-- the list from a server to a pending response's channel
abbrev pub response_key : {T H : Type 0} → Pending T H → ℕ → ResponseKey
response_key pending server =
    record { server = server; client = pending.message.client; channel = pending.message.channel }

module _ {Q QH P PH : Type 0} where
  -- the request in a handle that can be sent
  abbrev pub as_request_mut : Handle Q QH P PH → Option (RequestMessage Q QH)
  as_request_mut (RequestMut m) = Some m
  as_request_mut _ = None

  -- the content of a pending response
  abbrev pub as_pending : Handle Q QH P PH → Option (Pending Q QH)
  as_pending (PendingResponse p) = Some p
  as_pending _ = None

  -- the content of an active request
  abbrev pub as_active : Handle Q QH P PH → Option (Active Q QH)
  as_active (ActiveRequest a) = Some a
  as_active _ = None

  -- the response in a handle that can be sent
  abbrev pub as_response_mut : Handle Q QH P PH → Option (ResponseMessage P PH)
  as_response_mut (ResponseMut m) = Some m
  as_response_mut _ = None

  -- the request in a handle, if it has one
  abbrev pub request_in : Handle Q QH P PH → Option (RequestMessage Q QH)
  request_in (RequestMutUninit m) = Some m
  request_in (RequestMut m) = Some m
  request_in (PendingResponse p) = Some p.message
  request_in (ActiveRequest a) = Some a.message
  request_in _ = None

  -- the response in a handle, if it has one
  abbrev pub response_in : Handle Q QH P PH → Option (ResponseMessage P PH)
  response_in (ResponseMutUninit m) = Some m
  response_in (ResponseMut m) = Some m
  response_in (Response m) = Some m
  response_in _ = None

  -- the client or server that owns the handle
  abbrev pub port_of : Handle Q QH P PH → ℕ
  port_of (RequestMutUninit m) = m.client
  port_of (RequestMut m) = m.client
  port_of (PendingResponse p) = p.message.client
  port_of (ActiveRequest a) = a.server
  port_of (ResponseMutUninit m) = m.server
  port_of (ResponseMut m) = m.server
  port_of (Response m) = m.client

  -- a pending response whose hint is set
  abbrev pub with_hint : Handle Q QH P PH → Handle Q QH P PH
  with_hint (PendingResponse p) = PendingResponse (record p { hint = true })
  with_hint handle = handle

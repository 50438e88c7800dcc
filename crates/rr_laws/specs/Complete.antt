-- The messages that have as many elements as were loaned, in every state that a run reaches.
use Rattle.std.specs.Prelude.{◌≡◌, ℕ, true, Some}
use Rattle.std.specs.List.{AllByRecursion}
use Rattle.std.specs.Ordering.{nat_cmp}
use Rattle.std.specs.FinMap as fin_map
use Rattle.rr_protocol.specs.Lists.{Lists, at}
use Rattle.rr_protocol.specs.Keys.{RequestKey, ResponseKey, request_key_cmp, response_key_cmp}
use Rattle.rr_protocol.specs.Messages.{RequestMessage, ResponseMessage, Handle, RequestMutUninit, RequestMut, PendingResponse, ActiveRequest, ResponseMutUninit, ResponseMut, Response}
use Rattle.rr_protocol.specs.Writing.{is_complete}
use Rattle.rr_protocol.specs.State.{State}

module _ {Q QH P PH : Type 0} where
  -- the message in a handle is complete, unless it is on loan and was not taken as complete
  abbrev pub HasComplete : Handle Q QH P PH → Type 0
  HasComplete (RequestMutUninit m) = Unit {0}
  HasComplete (RequestMut m) = is_complete m.content ≡ true
  HasComplete (PendingResponse p) = is_complete p.message.content ≡ true
  HasComplete (ActiveRequest a) = is_complete a.message.content ≡ true
  HasComplete (ResponseMutUninit m) = Unit {0}
  HasComplete (ResponseMut m) = is_complete m.content ≡ true
  HasComplete (Response m) = is_complete m.content ≡ true

-- such is each handle's message, and every message in a list is complete
pub record AreComplete {Q QH P PH : Type 0} (handles : fin_map.FinMap nat_cmp (Handle Q QH P PH))
    (requests : Lists request_key_cmp (RequestMessage Q QH))
    (responses : Lists response_key_cmp (ResponseMessage P PH)) : Type 0 where
  pub in_handles : (n : ℕ) (h : Handle Q QH P PH) → fin_map.get handles n ≡ Some h → HasComplete h
  pub in_requests : (key : RequestKey) → AllByRecursion (λ m. is_complete m.content ≡ true) (at requests key)
  pub in_responses : (key : ResponseKey) → AllByRecursion (λ m. is_complete m.content ≡ true) (at responses key)

-- all this, in a state
abbrev pub MessagesComplete : {Q QH P PH K : Type 0} → State Q QH P PH K → Type 0
MessagesComplete s = AreComplete s.handles s.requests s.responses

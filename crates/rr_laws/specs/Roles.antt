-- Roles: handles without the content of their messages.
use Rattle.std.specs.Prelude.{ℕ, Bool, false, ◌&&◌, ◌==◌, Option, Some, None, option_and_then}
use Rattle.std.specs.Ordering.{nat_cmp}
use Rattle.std.specs.FinMap as fin_map
use Rattle.rr_table.specs.Maps.{map_values}
use Rattle.rr_protocol.specs.Keys.{RequestKey, ResponseKey}
use Rattle.rr_protocol.specs.Messages.{RequestMessage, ResponseMessage, Handle, RequestMutUninit, RequestMut, PendingResponse, ActiveRequest, ResponseMutUninit, ResponseMut, Response}

-- a request without its content
pub record Question : Type 0 where
  pub number : ℕ
  pub client : ℕ
  pub request_id : ℕ
  pub channel : ℕ

-- a response without its content
pub record Answer : Type 0 where
  pub number : ℕ
  pub server : ℕ
  pub active_request : ℕ
  pub request : ℕ
  pub request_id : ℕ
  pub client : ℕ
  pub channel : ℕ

-- a handle without content: a request on loan, one that waits for answers, one that a server received, a response on
-- loan, and one that a client received
pub data Role : Type 0 where
  LoanedRequest : Question → Role
  SentRequest : Question → Role
  ReceivedRequest : ℕ → Question → Role
  LoanedResponse : Answer → Role
  ReceivedResponse : Answer → Role

-- handles without content, by number
abbrev pub Roles : Type 0
Roles = fin_map.FinMap nat_cmp Role

module _ {T H : Type 0} where
  -- a request's message without its content
  abbrev pub question_of : RequestMessage T H → Question
  question_of m = record { number = m.number; client = m.client; request_id = m.request_id; channel = m.channel }

  -- a response's message without its content
  abbrev pub answer_of : ResponseMessage T H → Answer
  answer_of m =
      record {
        number = m.number;
        server = m.server;
        active_request = m.active_request;
        request = m.request;
        request_id = m.request_id;
        client = m.client;
        channel = m.channel;
      }

-- the request that a response answers
abbrev pub answered : Answer → Question
answered a = record { number = a.request; client = a.client; request_id = a.request_id; channel = a.channel }

module _ {Q QH P PH : Type 0} where
  -- a handle without its content
  abbrev pub role_of : Handle Q QH P PH → Role
  role_of (RequestMutUninit m) = LoanedRequest (question_of m)
  role_of (RequestMut m) = LoanedRequest (question_of m)
  role_of (PendingResponse p) = SentRequest (question_of p.message)
  role_of (ActiveRequest a) = ReceivedRequest a.server (question_of a.message)
  role_of (ResponseMutUninit m) = LoanedResponse (answer_of m)
  role_of (ResponseMut m) = LoanedResponse (answer_of m)
  role_of (Response m) = ReceivedResponse (answer_of m)

  -- all handles without their content
  abbrev pub roles_of : fin_map.FinMap nat_cmp (Handle Q QH P PH) → Roles
  roles_of handles = map_values role_of handles

-- the request that a role is about
abbrev pub subject_of : Role → Question
subject_of (LoanedRequest q) = q
subject_of (SentRequest q) = q
subject_of (ReceivedRequest server q) = q
subject_of (LoanedResponse a) = answered a
subject_of (ReceivedResponse a) = answered a

-- the number of a role: its message's, but an active request has a number of its own, here n
abbrev pub number_of : ℕ → Role → ℕ
number_of n (LoanedRequest q) = q.number
number_of n (SentRequest q) = q.number
number_of n (ReceivedRequest server q) = n
number_of n (LoanedResponse a) = a.number
number_of n (ReceivedResponse a) = a.number

-- the request that its client still has: on loan, or waiting for answers
abbrev pub asking : Role → Option Question
asking (LoanedRequest q) = Some q
asking (SentRequest q) = Some q
asking _ = None

-- the request that its client still has under this number
abbrev pub asking_at : Roles → ℕ → Option Question
asking_at roles n = option_and_then asking (fin_map.get roles n)

-- a request that this client has on loan
abbrev pub loans_request : ℕ → Role → Bool
loans_request client (LoanedRequest q) = q.client == client
loans_request client _ = false

-- a request of this client that waits for answers
abbrev pub waits : ℕ → Role → Bool
waits client (SentRequest q) = q.client == client
waits client _ = false

-- a request that was received from this list
abbrev pub holds_request : RequestKey → Role → Bool
holds_request key (ReceivedRequest server q) = q.client == key.client && server == key.server
holds_request key _ = false

-- a response that this server has on loan
abbrev pub loans_response : ℕ → Role → Bool
loans_response server (LoanedResponse a) = a.server == server
loans_response server _ = false

-- a response that was received from this list
abbrev pub holds_response : ResponseKey → Role → Bool
holds_response key (ReceivedResponse a) = a.server == key.server && a.client == key.client && a.channel == key.channel
holds_response key _ = false

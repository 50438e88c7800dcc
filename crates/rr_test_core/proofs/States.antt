-- States of the message machine that are written out, and what they are made of.
use Rattle.std.proofs.Common.{◌≡◌, ℕ, Bool, true, false, List, [], ◌∷◌, length, None}
use Rattle.std.specs.FinMap.{from_sorted}
use Rattle.rr_slots.specs.declared.family.Family.{Family}
use Rattle.rr_protocol.specs.declared.limits.Limits.{Limits}
use Rattle.rr_protocol.specs.declared.settings.BackpressureAction.{BackpressureAction}
use Rattle.rr_protocol.specs.declared.settings.BackpressureStrategy.{BackpressureStrategy}
use Rattle.rr_protocol.specs.declared.settings.AllocationStrategy.{AllocationStrategy}
use Rattle.rr_protocol.specs.declared.settings.ClientSettings.{ClientSettings}
use Rattle.rr_protocol.specs.declared.settings.ServerSettings.{ServerSettings}
use Rattle.rr_protocol.specs.Messages.{RequestMessage, ResponseMessage, Handle}
use Rattle.rr_protocol.specs.Keys.{RequestKey, ResponseKey}
use Rattle.rr_protocol.specs.Ports.{Port, Client, Server}
use Rattle.rr_protocol.specs.State.{State}
use Rattle.rr_protocol.specs.declared.command.Command.{Command}
use Rattle.rr_protocol.specs.declared.reply.Reply.{Reply}
use Rattle.rr_protocol.specs.Step.{Step}

pub not_true : false ≡ true → ⊥
not_true e = cc

abbrev pub NoHandler : Type 0
NoHandler = Unit {0}

abbrev pub HubState : Type 0
HubState = State ℕ ℕ ℕ ℕ NoHandler

abbrev pub answer : NoHandler → ℕ → ℕ → BackpressureAction
answer handler sender receiver = BackpressureAction.DiscardData

abbrev pub IsZero : ℕ → Type 0
IsZero n = n ≡ 0

abbrev pub StepOf : HubState → Command ℕ ℕ NoHandler → Reply ℕ ℕ → HubState → Type 0
StepOf = Step answer IsZero IsZero Family.Typed

-- the entries of handles, requests and responses
abbrev pub Handles : Type 0
Handles = List (ℕ × Handle ℕ ℕ ℕ ℕ)

abbrev pub Requests : Type 0
Requests = List (RequestKey × (RequestMessage ℕ ℕ × List (RequestMessage ℕ ℕ)))

abbrev pub Responses : Type 0
Responses = List (ResponseKey × (ResponseMessage ℕ ℕ × List (ResponseMessage ℕ ℕ)))

-- limits with this many clients and servers, with two loans, two active requests, room for two responses and one borrow
abbrev pub limits : ℕ → ℕ → Bool → Limits
limits clients servers fire_and_forget =
    record {
      max_clients = clients;
      max_servers = servers;
      max_loaned_requests = 2;
      max_active_requests_per_client = 2;
      max_response_buffer_size = 2;
      max_borrowed_responses_per_pending_response = 1;
      enable_safe_overflow_for_requests = false;
      enable_safe_overflow_for_responses = false;
      enable_fire_and_forget_requests = fire_and_forget;
      client_expired_connection_buffer = 1;
      server_expired_connection_buffer = 1;
    }

abbrev pub client : BackpressureStrategy → ClientSettings NoHandler
client strategy = record {
  strategy = strategy;
  initial_max_slice_len = 1;
  allocation_strategy = AllocationStrategy.Static;
  pool = None;
  handler = None;
}

abbrev pub server : ServerSettings NoHandler
server = record {
  strategy = BackpressureStrategy.DiscardData;
  initial_max_slice_len = 1;
  allocation_strategy = AllocationStrategy.Static;
  pool = None;
  handler = None;
  loans = 1;
}

-- a port with this number, strategy and pool size, and whether its value lives
abbrev pub port : ℕ → BackpressureStrategy → ℕ → Bool → Port NoHandler
port n strategy size held =
    record {
      id = n;
      strategy = strategy;
      handler = None;
      allocation_strategy = AllocationStrategy.Static;
      initial_max_slice_len = 1;
      pool_size = size;
      has_value = held;
    }

abbrev pub client_port : Port NoHandler → ℕ → Client NoHandler
client_port port loans = record { port = port; loans_made = loans }

abbrev pub server_port : Port NoHandler → Server NoHandler
server_port port = record { port = port; max_loaned_responses_per_request = 1 }

-- the client 0 with a pool of this size and so many loans made, and the server 1 with a pool of this size; both pass full lists over
abbrev pub client_0 : ℕ → ℕ → Client NoHandler
client_0 size loans = client_port (port 0 BackpressureStrategy.DiscardData size true) loans

abbrev pub server_1 : ℕ → Server NoHandler
server_1 size = server_port (port 1 BackpressureStrategy.DiscardData size true)

-- limits, clients, servers, handles, requests, responses, expired pairs and the next number
abbrev pub hub : Limits → List (Client NoHandler) → List (Server NoHandler) → Handles → Requests → Responses → List (ℕ × (ℕ × List ℕ)) → ℕ
    → HubState
hub limits clients servers handles requests responses expired next =
    record {
      limits = limits;
      node_id = 0;
      clients = clients;
      servers = servers;
      handles = from_sorted handles;
      requests = from_sorted requests;
      responses = from_sorted responses;
      expired = from_sorted expired;
      next = next;
    }

-- the number, client, request id, channel and one element of a request
abbrev pub request : ℕ → ℕ → ℕ → ℕ → ℕ → RequestMessage ℕ ℕ
request number client id channel element =
    record {
      number = number;
      client = client;
      request_id = id;
      channel = channel;
      content = record { user_header = 0; asked_len = 1; elements = element ∷ [] };
    }

-- a pending response with the servers that its request was sent to
abbrev pub pending : RequestMessage ℕ ℕ → List ℕ → ℕ × Handle ℕ ℕ ℕ ℕ
pending message servers = (
  message.number,
  Handle.PendingResponse
      (record { message = message; hint = false; connections = length servers; servers = servers }),
)

abbrev pub active : ℕ → RequestMessage ℕ ℕ → ℕ → ℕ × Handle ℕ ℕ ℕ ℕ
active number message server = (number, Handle.ActiveRequest (record { message = message; server = server }))

-- the number, server, active request and one element of a response to a request
abbrev pub response : ℕ → ℕ → ℕ → RequestMessage ℕ ℕ → ℕ → ResponseMessage ℕ ℕ
response number server active message element =
    record {
      number = number;
      server = server;
      active_request = active;
      request = message.number;
      request_id = message.request_id;
      client = message.client;
      channel = message.channel;
      content = record { user_header = 0; asked_len = 1; elements = element ∷ [] };
    }

-- a list of one entry
abbrev pub requests_at : ℕ → ℕ → RequestMessage ℕ ℕ → RequestKey × (RequestMessage ℕ ℕ × List (RequestMessage ℕ ℕ))
requests_at client server message = (record { client = client; server = server }, (message, []))

abbrev pub responses_at : ResponseMessage ℕ ℕ → ResponseKey × (ResponseMessage ℕ ℕ × List (ResponseMessage ℕ ℕ))
responses_at message = (record { server = message.server; client = message.client; channel = message.channel }, (message, []))

-- the client 0 and the server 1, with a pool of this size and so many loans made
abbrev one_of_each : ℕ → ℕ → Handles → Requests → Responses → ℕ → HubState
one_of_each size loans handles requests responses next =
    hub (limits 2 1 false) (client_0 size loans ∷ []) (server_1 28 ∷ []) handles requests responses [] next

abbrev pub question : RequestMessage ℕ ℕ
question = request 2 0 0 0 123

-- it was received
abbrev asked_and : Handles → Handles
asked_and handles = pending question (1 ∷ []) ∷ active 3 question 1 ∷ handles

-- both ports are connected, and nothing was sent
abbrev pub idle : HubState
idle = one_of_each 8 0 [] [] [] 2

-- the request waits in the server's queue
abbrev pub queued : HubState
queued = one_of_each 8 1 (pending question (1 ∷ []) ∷ []) (requests_at 0 1 question ∷ []) [] 3

-- the one response was received
abbrev pub answered : HubState
answered = one_of_each 8 1 (asked_and ((4, Handle.Response (response 4 1 3 question 456)) ∷ [])) [] [] 5

-- one response is held, as many as may be, and the next one waits
abbrev pub borrowed : HubState
borrowed =
    one_of_each 8 1 (asked_and ((4, Handle.Response (response 4 1 3 question 10)) ∷ [])) [] (responses_at (response 5 1 3 question 11) ∷ []) 6

abbrev released : RequestMessage ℕ ℕ
released = request 2 0 0 0 10

abbrev later : RequestMessage ℕ ℕ
later = request 5 0 1 0 11

-- the answer to a released request is on loan, and the client's next request holds the same channel, the only one of its pool of one message
abbrev pub asked_again : HubState
asked_again =
    one_of_each 1 2 ((4, Handle.ResponseMut (response 4 1 3 released 77)) ∷ pending later (1 ∷ []) ∷ []) (requests_at 0 1 later ∷ []) [] 6

-- the client 0 left while its request was held, and the client 4 came in its place
abbrev pub place_taken_again : HubState
place_taken_again =
    hub (limits 1 1 false) (client_port (port 4 BackpressureStrategy.DiscardData 8 true) 1 ∷ []) (server_1 14 ∷ [])
    (active 3 (request 2 0 0 0 1) 1 ∷ pending (request 5 4 0 0 2) (1 ∷ []) ∷ []) (requests_at 4 1 (request 5 4 0 0 2) ∷ []) [] [] 6

abbrev first : RequestMessage ℕ ℕ
first = request 3 0 0 0 1

abbrev second : RequestMessage ℕ ℕ
second = request 4 0 1 1 2

-- the server 1 received both requests of a client that waits for room, and the queue of the server 2 is full with them
abbrev pub one_full_queue : HubState
one_full_queue =
    hub (limits 2 2 false) (client_port (port 0 BackpressureStrategy.RetryUntilDelivered 12 true) 2 ∷ [])
    (server_1 36 ∷ server_port (port 2 BackpressureStrategy.DiscardData 36 true) ∷ []) (active 5 first 1 ∷ active 6 second 1 ∷ [])
    ((record { client = 0; server = 2 }, (first, second ∷ [])) ∷ []) [] [] 7

-- The state that the parts of a core represent.
use Rattle.std.specs.Prelude.{ℕ, ◌+◌, ◌*◌, Bool, false, ◌==◌, List, [], map, filter, flat_map, find, length, slice_index_or}
use Rattle.std.specs.List.{range_with_len}
use Rattle.std.specs.Option.{option_map_or}
use Rattle.rr_table.specs.Maps.{map_values}
use Rattle.rr_table.specs.TableView.{TableEntry}
use Rattle.rr_sender.specs.Senders.{Messages, content_at, queue_at}
use Rattle.rr_protocol.specs.Lists.{Lists, lists_by}
use Rattle.rr_protocol.specs.Keys.{RequestKey, ResponseKey, request_key, request_key_cmp, response_key_cmp}
use Rattle.rr_protocol.specs.Messages.{Content, RequestMessage, ResponseMessage, Handle, RequestMutUninit, RequestMut, PendingResponse, ActiveRequest, ResponseMutUninit, ResponseMut, Response}
use Rattle.rr_protocol.specs.Ports.{Client, Server}
use Rattle.rr_protocol.specs.State.{State}
use Rattle.rr_store.specs.declared.handle_entry.HandleEntry.{HandleEntry}
use Rattle.rr_store.specs.declared.handle_entry.Stage.{Stage}
use Rattle.rr_store.specs.declared.handle_entry.Stage.TheVariants as stage
use Rattle.rr_store.specs.declared.details.RequestDetails.{RequestDetails}
use Rattle.rr_store.specs.declared.details.ResponseDetails.{ResponseDetails}
use Rattle.rr_store.specs.Expired.{expired_of}
use Rattle.rr_store.specs.Parts.{ClientPart, ServerPart, Sender, Parts}

-- the details of no request, and of no response
abbrev pub no_request : RequestDetails
no_request = record { number = 0; client = 0; request_id = 0 }

abbrev pub no_response : ResponseDetails
no_response =
    record {
      number = 0;
      server = 0;
      active_request = 0;
      request = 0;
      request_id = 0;
      client = 0;
      client_sender = 0;
      channel = 0;
    }

-- the mark that names no server
abbrev pub no_server : ℕ
no_server = 18446744073709551615

-- a sender that doesn't exist
abbrev pub no_sender : {T N H : Type 0} → Sender T N H
no_sender =
    record {
      owner = 0;
      row = 0;
      receiver = 0;
      has_value = false;
      loans = 0;
      pendings = 0;
      may_answer = [];
      messages = record {
        contents = [];
        details = [];
        user_headers = [];
        held = [];
        queues = [];
        borrowed = [];
        capacity = 0;
        room = 0;
      };
    }

-- the content of a slot
abbrev pub content_of : {T N H : Type 0} → H → Messages T N H → ℕ → Content T H
content_of spare m slot =
    record {
      user_header =
          slice_index_or m.user_headers slot spare;
      asked_len = (content_at m slot).asked_len;
      elements = (content_at m slot).elements;
    }

-- the request in a slot, whose channel is the slot
abbrev pub request_in_slot : {T H : Type 0} → H → Messages T RequestDetails H → ℕ → RequestMessage T H
request_in_slot spare m slot =
    let details = slice_index_or m.details slot no_request in
    record {
      number =
          details.number;
      client = details.client;
      request_id = details.request_id;
      channel = slot;
      content = content_of spare m slot;
    }

-- the response in a slot
abbrev pub response_in_slot : {T H : Type 0} → H → Messages T ResponseDetails H → ℕ → ResponseMessage T H
response_in_slot spare m slot =
    let details = slice_index_or m.details slot no_response in
    record {
      number = details.number;
      server = details.server;
      active_request = details.active_request;
      request = details.request;
      request_id = details.request_id;
      client = details.client;
      channel = details.channel;
      content = content_of spare m slot;
    }

-- the sender of a port
abbrev pub sender_of : {T N H : Type 0} → ℕ → List (Sender T N H) → Sender T N H
sender_of sender senders = slice_index_or senders sender no_sender

-- whether by these marks the server with a number, which is a receiver, may still answer the request in a slot
abbrev pub is_marked : ℕ → List ℕ → ℕ → ℕ → ℕ → Bool
is_marked receivers marks slot receiver server =
    slice_index_or marks (slot * receivers + receiver) no_server == server

-- the servers that may by these marks
abbrev pub marked : {K : Type 0} → ℕ → List (ServerPart K) → List ℕ → ℕ → List ℕ
marked receivers servers marks slot =
    map (λ server. server.port.id) (filter (λ server. is_marked receivers marks slot server.receiver server.port.id)
    servers)

-- a client, and a server, as they are seen
abbrev pub client_of : {K : Type 0} → ClientPart K → Client K
client_of c = record { port = c.port; loans_made = c.loans_made }

abbrev pub server_of : {K : Type 0} → ServerPart K → Server K
server_of s = record { port = s.port; max_loaned_responses_per_request = s.max_loaned_responses_per_request }

module _ {Q QH P PH K : Type 0} where
  -- the request that a handle or an entry names by sender and slot, and the response that it names
  abbrev pub request_at : Parts Q QH P PH K → ℕ → ℕ → RequestMessage Q QH
  request_at p sender slot = request_in_slot p.spare_request_header (sender_of sender p.client_senders).messages slot

  abbrev pub response_at : Parts Q QH P PH K → ℕ → ℕ → ResponseMessage P PH
  response_at p sender slot =
      response_in_slot p.spare_response_header (sender_of sender p.server_senders).messages slot

  -- whether the server with a number, which is a receiver, may still answer the request in a slot
  abbrev pub is_awaited : Parts Q QH P PH K → ℕ → ℕ → ℕ → ℕ → Bool
  is_awaited p sender slot receiver server =
      is_marked p.limits.max_servers (sender_of sender p.client_senders).may_answer slot receiver server

  -- the servers that may
  abbrev pub waiting_at : Parts Q QH P PH K → ℕ → ℕ → List ℕ
  waiting_at p sender slot = marked p.limits.max_servers p.servers (sender_of sender p.client_senders).may_answer slot

  -- the handle of a number, by its stage
  abbrev pub handle_in : Parts Q QH P PH K → Stage → ℕ → ℕ → Handle Q QH P PH
  handle_in p stage.RequestMutUninit sender slot = RequestMutUninit (request_at p sender slot)
  handle_in p stage.RequestMut sender slot = RequestMut (request_at p sender slot)
  handle_in p (stage.PendingResponse hint connections) sender slot =
      PendingResponse (record {
        message = request_at p sender slot;
        hint = hint;
        connections = connections;
        servers = waiting_at p sender slot;
      })
  handle_in p (stage.ActiveRequest server loans) sender slot =
      ActiveRequest (record { message = request_at p sender slot; server = server })
  handle_in p stage.ResponseMutUninit sender slot = ResponseMutUninit (response_at p sender slot)
  handle_in p stage.ResponseMut sender slot = ResponseMut (response_at p sender slot)
  handle_in p stage.Response sender slot = Response (response_at p sender slot)

  abbrev pub handle_of : Parts Q QH P PH K → TableEntry HandleEntry → Handle Q QH P PH
  handle_of p table_entry = handle_in p table_entry.value.stage table_entry.value.sender table_entry.value.slot

  -- the requests from a client to a server, the oldest first
  abbrev pub requests_at : Parts Q QH P PH K → RequestKey → List (RequestMessage Q QH)
  requests_at p key =
      option_map_or
      (λ server.
      option_map_or
      (λ sender. map (request_in_slot p.spare_request_header sender.messages)
      (queue_at sender.messages server.receiver 0))
      (find (λ sender. sender.owner == key.client) p.client_senders)
      [])
      (find (λ server. server.port.id == key.server) p.servers)
      []

  -- the responses from a server to a client's channel
  abbrev pub responses_at : Parts Q QH P PH K → ResponseKey → List (ResponseMessage P PH)
  responses_at p key =
      option_map_or
      (λ client.
      option_map_or
      (λ sender. map (response_in_slot p.spare_response_header sender.messages)
      (queue_at sender.messages client.receiver key.channel))
      (find (λ sender. sender.owner == key.server) p.server_senders)
      [])
      (find (λ client. client.port.id == key.client) p.clients)
      []

  -- every key at which requests, or responses, can wait
  abbrev pub request_keys : Parts Q QH P PH K → List RequestKey
  request_keys p =
      flat_map (λ sender. map (λ server. request_key sender.owner server.port.id) p.servers) p.client_senders

  abbrev pub response_keys : Parts Q QH P PH K → List ResponseKey
  response_keys p =
      flat_map
      (λ sender.
      flat_map
      (λ client.
      map (λ channel. record { server = sender.owner; client = client.port.id; channel = channel })
      (range_with_len 0 (length (slice_index_or sender.messages.queues client.receiver []))))
      p.clients)
      p.server_senders

  -- the requests, and the responses, that wait
  abbrev pub request_lists : Parts Q QH P PH K → Lists request_key_cmp (RequestMessage Q QH)
  request_lists p = lists_by (request_keys p) (requests_at p)

  abbrev pub response_lists : Parts Q QH P PH K → Lists response_key_cmp (ResponseMessage P PH)
  response_lists p = lists_by (response_keys p) (responses_at p)

  -- what contracts see of a core
  abbrev pub state_of : Parts Q QH P PH K → State Q QH P PH K
  state_of p =
      record {
        limits = p.limits;
        node_id = p.node_id;
        clients = map client_of p.clients;
        servers = map server_of p.servers;
        handles = map_values (handle_of p) p.table.entries;
        requests = request_lists p;
        responses = response_lists p;
        expired =
            expired_of (request_lists p) (response_lists p) (map (λ l. l.number) p.left_clients)
            (map (λ l. l.number) p.left_servers);
        next = p.next;
      }

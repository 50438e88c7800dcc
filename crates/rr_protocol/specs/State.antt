-- The state of a hub as contracts see it: its connected ports, handles with their messages, and lists of entries.
use Rattle.std.specs.Prelude.{ℕ, ◌-◌, ◌^◌, Bool, ◌==◌, ◌&&◌, List, [], Option, IsSomeAnd, find, option_and_then}
use Rattle.std.specs.List.{list_any}
use Rattle.std.specs.Option.{option_map_or}
use Rattle.std.specs.Ordering.{nat_cmp}
use Rattle.std.specs.FinMap as fin_map
use Rattle.rr_protocol.specs.declared.limits.Limits.{Limits}
use Rattle.rr_protocol.specs.Ports.{Client, Server}
use Rattle.rr_protocol.specs.Lists.{Lists, no_lists}
use Rattle.rr_protocol.specs.Keys.{request_key_cmp, response_key_cmp}
use Rattle.rr_protocol.specs.Messages.{RequestMessage, ResponseMessage, Pending, Active, Handle, as_request_mut, as_pending, as_active, as_response_mut}

-- a hub: its ports in order of creation, its handles by number, the lists of messages that were sent and not
-- received, and for each receiver the senders that left whose entries it keeps, the oldest first
pub record State (Q QH P PH K : Type 0) : Type 0 where
  pub limits : Limits
  pub node_id : ℕ
  pub clients : List (Client K)
  pub servers : List (Server K)
  pub handles : fin_map.FinMap nat_cmp (Handle Q QH P PH)
  pub requests : Lists request_key_cmp (RequestMessage Q QH)
  pub responses : Lists response_key_cmp (ResponseMessage P PH)
  pub expired : Lists nat_cmp ℕ
  pub next : ℕ

module _ {Q QH P PH K : Type 0} where
  -- a new hub, which is empty
  abbrev pub empty_hub : Limits → ℕ → State Q QH P PH K
  empty_hub limits node_id =
      record {
        limits =
            limits;
        node_id = node_id;
        clients = [];
        servers = [];
        handles = fin_map.empty;
        requests = no_lists;
        responses = no_lists;
        expired = no_lists;
        next = 0;
      }

  -- how many numbers a hub has left to assign
  abbrev pub numbers_left : State Q QH P PH K → ℕ
  numbers_left s = 2 ^ 62 - s.next

  -- the connected client with this number
  abbrev pub client_at : State Q QH P PH K → ℕ → Option (Client K)
  client_at s n = find (λ c. c.id == n) s.clients

  -- the connected server with this number
  abbrev pub server_at : State Q QH P PH K → ℕ → Option (Server K)
  server_at s n = find (λ c. c.id == n) s.servers

  -- whether the value of the client with this number lives
  abbrev pub is_client_value : State Q QH P PH K → ℕ → Bool
  is_client_value s n = list_any (λ c. c.id == n && c.has_value) s.clients

  -- whether the value of the server with this number lives
  abbrev pub is_server_value : State Q QH P PH K → ℕ → Bool
  is_server_value s n = list_any (λ c. c.id == n && c.has_value) s.servers

  -- the handle with this number
  abbrev pub handle_at : State Q QH P PH K → ℕ → Option (Handle Q QH P PH)
  handle_at s n = fin_map.get s.handles n

  -- the request that can be sent under this number
  abbrev pub request_at : State Q QH P PH K → ℕ → Option (RequestMessage Q QH)
  request_at s n = option_and_then as_request_mut (handle_at s n)

  -- the pending response with this number
  abbrev pub pending_at : State Q QH P PH K → ℕ → Option (Pending Q QH)
  pending_at s n = option_and_then as_pending (handle_at s n)

  -- the active request with this number
  abbrev pub active_at : State Q QH P PH K → ℕ → Option (Active Q QH)
  active_at s n = option_and_then as_active (handle_at s n)

  -- the response that can be sent under this number
  abbrev pub response_at : State Q QH P PH K → ℕ → Option (ResponseMessage P PH)
  response_at s n = option_and_then as_response_mut (handle_at s n)

  -- the number names a request that can be sent, and this holds of its client and of it
  abbrev pub IsRequestMutAnd : State Q QH P PH K → ℕ → (Client K → RequestMessage Q QH → Type 0) → Type 0
  IsRequestMutAnd s n P =
      IsSomeAnd (request_at s n) (λ message. IsSomeAnd (client_at s message.client) (λ client. P client message))

  -- the number names a response that can be sent, and this holds of its server and of it
  abbrev pub IsResponseMutAnd : State Q QH P PH K → ℕ → (Server K → ResponseMessage P PH → Type 0) → Type 0
  IsResponseMutAnd s n P =
      IsSomeAnd (response_at s n) (λ message. IsSomeAnd (server_at s message.server) (λ server. P server message))

  -- the number names an active request, and this holds of its server and of it
  abbrev pub IsActiveAnd : State Q QH P PH K → ℕ → (Server K → Active Q QH → Type 0) → Type 0
  IsActiveAnd s n P =
      IsSomeAnd (active_at s n) (λ active. IsSomeAnd (server_at s active.server) (λ server. P server active))

  -- after the handle with this number became another, if there is one
  abbrev pub with_changed : State Q QH P PH K → ℕ → (Handle Q QH P PH → Handle Q QH P PH) → State Q QH P PH K
  with_changed s n change =
      record s {
        handles =
            option_map_or (λ handle. fin_map.insert s.handles n (change handle)) (handle_at s n) s.handles;
      }

  -- every handle
  abbrev pub all_handles : State Q QH P PH K → List (Handle Q QH P PH)
  all_handles s = fin_map.values s.handles

-- Releases of ports and handles, and what is removed with a port that leaves.
use Rattle.std.specs.Prelude.{ℕ, ◌+◌, ◌-◌, Bool, false, not, ◌&&◌, ◌==◌, if◌then◌else◌, List, [], ◌∷◌, ◌++◌, length, take, drop, map, filter, fold, is_some}
use Rattle.std.specs.List.{list_any}
use Rattle.std.specs.Option.{option_map_or}
use Rattle.std.specs.Ordering.{nat_cmp}
use Rattle.std.specs.FinMap as fin_map
use Rattle.rr_protocol.specs.Lists.{at, with_at, filled_keys}
use Rattle.rr_protocol.specs.Messages.{Handle, PendingResponse, ActiveRequest, port_of}
use Rattle.rr_protocol.specs.Ports.{Port, Client, Server}
use Rattle.rr_protocol.specs.State.{State, client_at, handle_at, with_changed}
use Rattle.rr_protocol.specs.Counts.{is_in_use}

-- the port with this number without its value
abbrev pub without_value : {K : Type 0} → ℕ → Port K → Port K
without_value n port = if port.id == n then record port { has_value = false } else port

module _ {Q QH P PH : Type 0} where
  -- a pending response that this server may no longer answer
  abbrev pub without_server : ℕ → Handle Q QH P PH → Handle Q QH P PH
  without_server server (PendingResponse p) =
      PendingResponse (record p { servers = filter (λ s. not (s == server)) p.servers })
  without_server server handle = handle

  -- each handle after a change
  abbrev pub map_handles : (Handle Q QH P PH → Handle Q QH P PH) → fin_map.FinMap nat_cmp (Handle Q QH P PH)
      → fin_map.FinMap nat_cmp (Handle Q QH P PH)
  map_handles change handles = fin_map.from_entries (map (λ e. (e.0, change e.1)) (fin_map.entries handles))

-- of a receiver's expired senders and one more that left, the oldest ones, which exceed its room
abbrev pub outdated_senders : ℕ → List ℕ → ℕ → List ℕ
outdated_senders room senders sender = take (length senders + 1 - room) (senders ++ sender ∷ [])

-- the newest ones, which fit into its room
abbrev pub kept_senders : ℕ → List ℕ → ℕ → List ℕ
kept_senders room senders sender = drop (length senders + 1 - room) (senders ++ sender ∷ [])

module _ {Q QH P PH K : Type 0} where
  -- whether some channel from the server to the client has a response
  abbrev pub has_responses_from : State Q QH P PH K → ℕ → ℕ → Bool
  has_responses_from s client server =
      list_any (λ key. key.server == server && key.client == client) (filled_keys s.responses)

  -- whether the list from the client to the server has a request
  abbrev pub has_requests_from : State Q QH P PH K → ℕ → ℕ → Bool
  has_requests_from s server client =
      list_any (λ key. key.server == server && key.client == client) (filled_keys s.requests)

  -- left servers without entries leave a client's list
  abbrev pub without_empty_servers : State Q QH P PH K → ℕ → State Q QH P PH K
  without_empty_servers s client =
      record s { expired = with_at s.expired client (filter (has_responses_from s client) (at s.expired client)) }

  -- left clients without entries leave a server's list
  abbrev pub without_empty_clients : State Q QH P PH K → ℕ → State Q QH P PH K
  without_empty_clients s server =
      record s { expired = with_at s.expired server (filter (has_requests_from s server) (at s.expired server)) }

  -- how many left clients a server keeps requests of: none without fire-and-forget
  abbrev pub room_for_expired_clients : State Q QH P PH K → ℕ
  room_for_expired_clients s =
      if s.limits.enable_fire_and_forget_requests then s.limits.server_expired_connection_buffer else 0

  -- a server after a client left: the client's requests, if there are any, become the newest expired pair
  abbrev pub with_expired_client : ℕ → State Q QH P PH K → ℕ → State Q QH P PH K
  with_expired_client client s server =
      let gone = outdated_senders (room_for_expired_clients s) (at s.expired server) client in
      if has_requests_from s server client
      then record s {
        requests =
            fin_map.retain_keys s.requests (λ key.
            not (key.server == server && list_any (λ c. c == key.client) gone));
        expired = with_at s.expired server (kept_senders (room_for_expired_clients s) (at s.expired server) client);
      }
      else s

  -- a client after a server left: the server's responses, if there are any, become the newest expired pair
  abbrev pub with_expired_server : ℕ → State Q QH P PH K → ℕ → State Q QH P PH K
  with_expired_server server s client =
      let gone = outdated_senders s.limits.client_expired_connection_buffer (at s.expired client) server in
      if has_responses_from s client server
      then record s {
        responses =
            fin_map.retain_keys s.responses (λ key.
            not (key.client == client && list_any (λ c. c == key.server) gone));
        expired =
            with_at s.expired client (kept_senders s.limits.client_expired_connection_buffer (at s.expired client)
            server);
      }
      else s

  -- a client leaves: the entries for it are dropped, and the requests that it sent expire
  abbrev pub after_client_left : State Q QH P PH K → ℕ → State Q QH P PH K
  after_client_left s client =
      let left = fold (with_expired_client client) s (map (λ c. c.id) s.servers) in
      record left {
        clients = filter (λ c. not (c.id == client)) left.clients;
        responses = fin_map.retain_keys left.responses (λ key. not (key.client == client));
        expired = with_at left.expired client [];
      }

  -- a server leaves: the entries for it are dropped, the responses that it sent expire, and no pending response waits
  -- for it
  abbrev pub after_server_left : State Q QH P PH K → ℕ → State Q QH P PH K
  after_server_left s server =
      let left = fold (with_expired_server server) s (map (λ c. c.id) s.clients) in
      record left {
        servers = filter (λ c. not (c.id == server)) left.servers;
        handles = map_handles (without_server server) left.handles;
        requests = fin_map.retain_keys left.requests (λ key. not (key.server == server));
        expired = with_at left.expired server [];
      }

  -- a port leaves if neither its value nor one of its handles lives
  abbrev pub without_unused_port : State Q QH P PH K → ℕ → State Q QH P PH K
  without_unused_port s port =
      if is_in_use s port then s
      else if is_some (client_at s port) then after_client_left s port
      else after_server_left s port

  -- after the port value with this number was released
  abbrev pub without_port_value : State Q QH P PH K → ℕ → State Q QH P PH K
  without_port_value s n =
      record s {
        clients = map (λ (c : Client K). record c { port = without_value n c.port }) s.clients;
        servers = map (λ (c : Server K). record c { port = without_value n c.port }) s.servers;
      }

  -- after a channel's lists towards the client lost their entries
  abbrev pub with_empty_channel : State Q QH P PH K → ℕ → ℕ → State Q QH P PH K
  with_empty_channel s client channel =
      without_empty_servers (record s {
        responses = fin_map.retain_keys s.responses
            (λ key. not (key.client == client && key.channel == channel));
      }) client

  -- further changes when a handle is released: a pending response empties its channel, and an active request's server
  -- may no longer answer it
  abbrev pub after_handle_gone : State Q QH P PH K → Handle Q QH P PH → State Q QH P PH K
  after_handle_gone s (PendingResponse p) = with_empty_channel s p.message.client p.message.channel
  after_handle_gone s (ActiveRequest a) = with_changed s a.message.number (without_server a.server)
  after_handle_gone s handle = s

  -- after the release of a port value or a handle
  abbrev pub after_release : State Q QH P PH K → ℕ → State Q QH P PH K
  after_release s n =
      option_map_or
      (λ handle. without_unused_port (after_handle_gone (record s { handles = fin_map.remove s.handles n }) handle)
      (port_of handle))
      (handle_at s n)
      (without_unused_port (without_port_value s n) n)

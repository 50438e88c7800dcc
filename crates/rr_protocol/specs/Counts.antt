-- Counts of a state: live messages, loans, borrows; and which ports are connected or alive.
use Rattle.std.specs.Prelude.{ℕ, ◌+◌, Bool, false, ◌&&◌, ◌||◌, ◌==◌, nat_lt, if◌then◌else◌, List, [], ◌∷◌, ◌++◌, map, filter, filter_map, count_by, is_some}
use Rattle.std.specs.List.{list_any}
use Rattle.rr_protocol.specs.Lists.{all_elements}
use Rattle.rr_protocol.specs.Keys.{RequestKey, ResponseKey}
use Rattle.rr_protocol.specs.Messages.{Handle, RequestMutUninit, RequestMut, PendingResponse, ActiveRequest, ResponseMutUninit, ResponseMut, Response, request_in, response_in, port_of}
use Rattle.rr_protocol.specs.State.{State, is_client_value, is_server_value, pending_at, all_handles}

-- the number of distinct numbers in a list
abbrev pub distinct_count : List ℕ → ℕ
distinct_count [] = 0
distinct_count (n ∷ ns) = (if list_any (λ m. m == n) ns then 0 else 1) + distinct_count ns

module _ {Q QH P PH : Type 0} where
  -- a request that this client loaned and has neither sent nor released
  abbrev pub is_request_loan : ℕ → Handle Q QH P PH → Bool
  is_request_loan client (RequestMutUninit m) = m.client == client
  is_request_loan client (RequestMut m) = m.client == client
  is_request_loan client _ = false

  -- a response that this server loaned and has neither sent nor released
  abbrev pub is_response_loan : ℕ → Handle Q QH P PH → Bool
  is_response_loan server (ResponseMutUninit m) = m.server == server
  is_response_loan server (ResponseMut m) = m.server == server
  is_response_loan server _ = false

  -- the same, loaned from this active request
  abbrev pub is_response_loan_from : ℕ → Handle Q QH P PH → Bool
  is_response_loan_from active (ResponseMutUninit m) = m.active_request == active
  is_response_loan_from active (ResponseMut m) = m.active_request == active
  is_response_loan_from active _ = false

  -- a pending response of this client
  abbrev pub is_pending_of : ℕ → Handle Q QH P PH → Bool
  is_pending_of client (PendingResponse p) = p.message.client == client
  is_pending_of client _ = false

  -- a request that was received from this list
  abbrev pub is_borrowed_request : RequestKey → Handle Q QH P PH → Bool
  is_borrowed_request key (ActiveRequest a) = a.message.client == key.client && a.server == key.server
  is_borrowed_request key _ = false

  -- a response that was received from this list
  abbrev pub is_borrowed_response : ResponseKey → Handle Q QH P PH → Bool
  is_borrowed_response key (Response m) = m.server == key.server && m.client == key.client && m.channel == key.channel
  is_borrowed_response key _ = false

  -- a request of this client on this channel that may still be answered
  abbrev pub holds_channel : ℕ → ℕ → Handle Q QH P PH → Bool
  holds_channel client channel (RequestMutUninit m) = m.client == client && m.channel == channel
  holds_channel client channel (RequestMut m) = m.client == client && m.channel == channel
  holds_channel client channel (PendingResponse p) = p.message.client == client && p.message.channel == channel
  holds_channel client channel _ = false

module _ {Q QH P PH K : Type 0} where
  -- the live requests of a client, in a handle or in a list, each counted once
  abbrev pub live_requests : State Q QH P PH K → ℕ → ℕ
  live_requests s client =
      let messages = filter_map request_in (all_handles s) ++ all_elements s.requests in
      distinct_count (map (λ m. m.number) (filter (λ m. m.client == client) messages))

  -- the live responses of a server, in a handle or in a list, each counted once
  abbrev pub live_responses : State Q QH P PH K → ℕ → ℕ
  live_responses s server =
      let messages = filter_map response_in (all_handles s) ++ all_elements s.responses in
      distinct_count (map (λ m. m.number) (filter (λ m. m.server == server) messages))

  -- how many requests a client has on loan
  abbrev pub loaned_requests : State Q QH P PH K → ℕ → ℕ
  loaned_requests s client = count_by (is_request_loan client) (all_handles s)

  -- how many responses a server has on loan
  abbrev pub loaned_responses : State Q QH P PH K → ℕ → ℕ
  loaned_responses s server = count_by (is_response_loan server) (all_handles s)

  -- how many of them were loaned from this active request
  abbrev pub loaned_responses_from : State Q QH P PH K → ℕ → ℕ
  loaned_responses_from s active = count_by (is_response_loan_from active) (all_handles s)

  -- how many pending responses of a client live
  abbrev pub pending_responses : State Q QH P PH K → ℕ → ℕ
  pending_responses s client = count_by (is_pending_of client) (all_handles s)

  -- whether the number of live handles received from this list is below the receiver's borrow limit
  abbrev pub has_request_room : State Q QH P PH K → RequestKey → Bool
  has_request_room s key =
      nat_lt (count_by (is_borrowed_request key) (all_handles s)) s.limits.max_active_requests_per_client

  -- the same for responses, each channel by itself
  abbrev pub has_response_room : State Q QH P PH K → ResponseKey → Bool
  has_response_room s key =
      nat_lt (count_by (is_borrowed_response key) (all_handles s))
      s.limits.max_borrowed_responses_per_pending_response

  -- a request is alive while its pending response lives
  abbrev pub is_alive : State Q QH P PH K → ℕ → Bool
  is_alive s request = is_some (pending_at s request)

  -- whether the port value lives, or one of the port's handles does
  abbrev pub is_in_use : State Q QH P PH K → ℕ → Bool
  is_in_use s port =
      is_client_value s port || is_server_value s port || list_any (λ handle. port_of handle == port) (all_handles s)

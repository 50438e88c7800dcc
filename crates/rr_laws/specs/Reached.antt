-- Facts of every state that a run reaches.
use Rattle.std.specs.Prelude.{◌≡◌, ℕ, ◌<◌, ◌≤◌, Bool, true, false, ◌||◌, List, length, Some, None, is_some, find, ◌==◌}
use Rattle.std.specs.List.{AllByRecursion}
use Rattle.std.specs.FinMap as fin_map
use Rattle.rr_table.specs.Maps.{tally}
use Rattle.rr_protocol.specs.declared.limits.Limits.{Limits}
use Rattle.rr_protocol.specs.Limits.{worst_case_requests, max_loaned_responses, hub_refusal}
use Rattle.rr_protocol.specs.Lists.{Lists, at}
use Rattle.rr_protocol.specs.Keys.{RequestKey, ResponseKey, request_key_cmp, response_key_cmp}
use Rattle.rr_protocol.specs.Messages.{RequestMessage, ResponseMessage}
use Rattle.rr_protocol.specs.Ports.{Client, Server}
use Rattle.rr_protocol.specs.State.{State}
use Rattle.rr_laws.specs.Roles.{Question, Role, LoanedRequest, SentRequest, ReceivedRequest, LoanedResponse, ReceivedResponse, Roles, question_of, answer_of, answered, roles_of, subject_of, number_of, asking_at, loans_request, waits, holds_request, loans_response, holds_response}

module _ {K : Type 0} where
  -- whether a client with this number is connected
  abbrev pub has_client : List (Client K) → ℕ → Bool
  has_client clients n = is_some (find (λ c. c.id == n) clients)

  -- whether a server with this number is connected
  abbrev pub has_server : List (Server K) → ℕ → Bool
  has_server servers n = is_some (find (λ c. c.id == n) servers)

  -- whether a port with this number is connected
  abbrev pub is_port : List (Client K) → List (Server K) → ℕ → Bool
  is_port clients servers n = has_client clients n || has_server servers n

  -- whether the port whose handle it is is connected
  abbrev pub has_port : List (Client K) → List (Server K) → Role → Bool
  has_port clients servers (LoanedRequest q) = has_client clients q.client
  has_port clients servers (SentRequest q) = has_client clients q.client
  has_port clients servers (ReceivedRequest server q) = has_server servers server
  has_port clients servers (LoanedResponse a) = has_server servers a.server
  has_port clients servers (ReceivedResponse a) = has_client clients a.client

  -- at most as many ports as the limits allow, under given numbers, no pool of requests above the worst case, and no
  -- server without a loan
  pub record PortsFit (limits : Limits) (clients : List (Client K)) (servers : List (Server K)) (next : ℕ) : Type 0
    where
      pub few_clients : length clients ≤ limits.max_clients
      pub few_servers : length servers ≤ limits.max_servers
      pub client_numbers : AllByRecursion (λ c. c.id < next) clients
      pub server_numbers : AllByRecursion (λ c. c.id < next) servers
      pub client_pools : AllByRecursion (λ c. c.pool_size ≤ worst_case_requests limits) clients
      pub server_loans : AllByRecursion (λ c. 0 < c.max_loaned_responses_per_request) servers

-- a request's number was given, and is this request's alone, if its client still has it
pub record IsKnown (roles : Roles) (next : ℕ) (q : Question) : Type 0 where
  pub below : q.number < next
  pub same : (p : Question) → asking_at roles q.number ≡ Some p → p ≡ q

-- a handle's key is its own number, which is no port's; its port is connected, its request is known, and its channel
-- is one that a client may have
pub record RoleFits {K : Type 0} (limits : Limits) (clients : List (Client K)) (servers : List (Server K))
    (roles : Roles) (next n : ℕ) (role : Role) : Type 0 where
  pub below : n < next
  pub own_number : number_of n role ≡ n
  pub no_port : is_port clients servers n ≡ false
  pub connected : has_port clients servers role ≡ true
  pub known : IsKnown roles next (subject_of role)
  pub channel : (subject_of role).channel < worst_case_requests limits

-- every handle fits
abbrev pub HandlesFit : {K : Type 0} → Limits → List (Client K) → List (Server K) → Roles → ℕ → Type 0
HandlesFit limits clients servers roles next =
    (n : ℕ) (role : Role) → fin_map.get roles n ≡ Some role → RoleFits limits clients servers roles next n role

-- loans, pending responses and borrows are at most their limits
pub record CountsFit {K : Type 0} (limits : Limits) (servers : List (Server K)) (roles : Roles) : Type 0 where
  pub request_loans : (client : ℕ) → tally (loans_request client) roles ≤ limits.max_loaned_requests
  pub waiting : (client : ℕ) → tally (waits client) roles ≤ limits.max_active_requests_per_client
  pub held_requests : (key : RequestKey) → tally (holds_request key) roles ≤ limits.max_active_requests_per_client
  pub response_loans : (n : ℕ) (server : Server K) → find (λ c. c.id == n) servers ≡ Some server →
      tally (loans_response n) roles ≤ max_loaned_responses limits server.max_loaned_responses_per_request
  pub held_responses : (key : ResponseKey)
      → tally (holds_response key) roles ≤ limits.max_borrowed_responses_per_pending_response

-- a request in a list came from the list's client, its server is connected, and it is known
pub record RequestFits {T H K : Type 0} (limits : Limits) (servers : List (Server K)) (roles : Roles) (next : ℕ)
    (key : RequestKey) (message : RequestMessage T H) : Type 0 where
  pub client : message.client ≡ key.client
  pub server : has_server servers key.server ≡ true
  pub known : IsKnown roles next (question_of message)
  pub channel : message.channel < worst_case_requests limits

-- every request in a list fits, and no list exceeds its capacity
pub record RequestsFit {T H K : Type 0} (limits : Limits) (servers : List (Server K)) (roles : Roles) (next : ℕ)
    (lists : Lists request_key_cmp (RequestMessage T H)) : Type 0 where
  pub each : (key : RequestKey) → AllByRecursion (RequestFits limits servers roles next key) (at lists key)
  pub short : (key : RequestKey) → length (at lists key) ≤ limits.max_active_requests_per_client

-- a response in a list came from the list's server, its number was given and is no request's and no port's, and it
-- answers the request that holds the list's channel
pub record ResponseFits {T H K : Type 0} (clients : List (Client K)) (servers : List (Server K)) (roles : Roles)
    (next : ℕ)
    (key : ResponseKey) (message : ResponseMessage T H) : Type 0 where
  pub server : message.server ≡ key.server
  pub client : message.client ≡ key.client
  pub channel : message.channel ≡ key.channel
  pub below : message.number < next
  pub no_request : asking_at roles message.number ≡ None
  pub no_port : is_port clients servers message.number ≡ false
  pub answers : fin_map.get roles message.request ≡ Some (SentRequest (answered (answer_of message)))

-- every response in a list fits, and no list exceeds its capacity
pub record ResponsesFit {T H K : Type 0} (limits : Limits) (clients : List (Client K)) (servers : List (Server K))
    (roles : Roles)
    (next : ℕ) (lists : Lists response_key_cmp (ResponseMessage T H)) : Type 0 where
  pub each : (key : ResponseKey) → AllByRecursion (ResponseFits clients servers roles next key) (at lists key)
  pub short : (key : ResponseKey) → length (at lists key) ≤ limits.max_response_buffer_size

-- all facts of a hub's ports, handles and lists, except those of the content of its messages
pub record Fits {Q QH P PH K : Type 0} (limits : Limits) (clients : List (Client K)) (servers : List (Server K))
    (roles : Roles)
    (requests : Lists request_key_cmp (RequestMessage Q QH))
    (responses : Lists response_key_cmp (ResponseMessage P PH)) (next : ℕ) : Type 0 where
  pub makes_hub : hub_refusal limits ≡ None
  pub ports : PortsFit limits clients servers next
  pub handles : HandlesFit limits clients servers roles next
  pub counts : CountsFit limits servers roles
  pub request_lists : RequestsFit limits servers roles next requests
  pub response_lists : ResponsesFit limits clients servers roles next responses

-- all facts of a state that a run reaches from an empty hub whose limits make a hub
abbrev pub IsReached : {Q QH P PH K : Type 0} → State Q QH P PH K → Type 0
IsReached s = Fits s.limits s.clients s.servers (roles_of s.handles) s.requests s.responses s.next

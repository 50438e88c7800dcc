-- Filling the pool of a hub's only client: which of its requests are live, and which are in the list to the server
-- that is being served.
use Rattle.std.specs.Prelude.{◌≡◌, ◌≢◌, ◌<◌, ◌≤◌, ◌⊎◌, ℕ, Bool, true, false, ◌&&◌, ◌==◌, List, [], ◌∷◌, ◌++◌, length, Some, IsSomeAnd, nat_eq}
use Rattle.std.specs.List.{AllByRecursion, IsDistinct, list_any}
use Rattle.std.specs.FinMap as fin_map
use Rattle.rr_protocol.specs.declared.limits.Limits.{Limits}
use Rattle.rr_protocol.specs.Lists.{at}
use Rattle.rr_protocol.specs.Keys.{RequestKey, request_key}
use Rattle.rr_protocol.specs.Messages.{RequestMessage}
use Rattle.rr_protocol.specs.Ports.{Server}
use Rattle.rr_protocol.specs.State.{State, client_at}
use Rattle.rr_laws.specs.Roles.{Question, Role, LoanedRequest, SentRequest, ReceivedRequest, LoanedResponse, ReceivedResponse, roles_of, question_of}
use Rattle.rr_laws.specs.Reached.{IsReached}

-- the number of the one client, which is the first port
abbrev pub only_client : ℕ
only_client = 0

-- whether it is the client's request with this number
abbrev pub is_request : ℕ → Question → Bool
is_request n q = q.client == only_client && q.number == n

-- whether a role is about that request
abbrev pub is_about : ℕ → Role → Bool
is_about n (LoanedRequest q) = is_request n q
is_about n (SentRequest q) = is_request n q
is_about n (ReceivedRequest server q) = is_request n q
is_about n (LoanedResponse a) = false
is_about n (ReceivedResponse a) = false

module _ {Q QH P PH K : Type 0} (s : State Q QH P PH K) where
  -- a handle under a number that may be, is about the request
  abbrev pub IsHeld : (ℕ → Type 0) → ℕ → Type 0
  IsHeld May n =
      (j : ℕ) × (role : Role) × May j × (fin_map.get (roles_of s.handles) j ≡ Some role) × (is_about n role ≡ true)

  -- the request is in a list
  abbrev pub IsListed : ℕ → Type 0
  IsListed n = (key : RequestKey) × (list_any (λ m. is_request n (question_of m)) (at s.requests key) ≡ true)

  -- the request is live: it is in a handle under a permitted number, or in a list
  abbrev pub Stands : (ℕ → Type 0) → ℕ → Type 0
  Stands May n = IsHeld May n ⊎ IsListed n

  -- the request lives
  abbrev pub Lives : ℕ → Type 0
  Lives n = Stands (λ j. j ≡ j) n

  -- it lives, also if the handle under its own number goes
  abbrev pub LivesElsewhere : ℕ → Type 0
  LivesElsewhere n = Stands (λ j. j ≢ n) n

  -- this number of requests of the client are live, and fit into its pool of this size; no other client sent a
  -- request
  pub record IsHolding (limits : Limits) (pool count : ℕ) : Type 0 where
    pub reached : IsReached s
    pub limits_are : s.limits ≡ limits
    pub client : IsSomeAnd (client_at s only_client) (λ c. (c.pool_size ≡ pool) × (c.has_value ≡ true))
    pub others : (key : RequestKey) → key.client ≢ only_client → at s.requests key ≡ []
    pub numbers : List ℕ
    pub distinct : IsDistinct nat_eq numbers
    pub live : AllByRecursion Lives numbers
    pub counted : length numbers ≡ count
    pub fits : count ≤ pool

  -- this is the newest server, and these requests are in the list to it
  pub record IsServed (server : ℕ) (entries : List (RequestMessage Q QH)) : Type 0 where
    pub older : List (Server K)
    pub newest : Server K
    pub servers_are : s.servers ≡ older ++ newest ∷ []
    pub newest_is : newest.id ≡ server
    pub older_others : AllByRecursion (λ c. (c.id == server) ≡ false) older
    pub entries_are : at s.requests (request_key only_client server) ≡ entries

  -- the client's request with this number waits for answers, and it is this one
  pub record Waits (n : ℕ) (message : RequestMessage Q QH) : Type 0 where
    pub asks : is_request n (question_of message) ≡ true
    pub there : fin_map.get (roles_of s.handles) n ≡ Some (SentRequest (question_of message))

module _ {Q QH P PH K : Type 0} (old new : State Q QH P PH K) where
  -- the client sent a request with this number, and a list to the newest server with room has it at the end
  pub record IsSent (limits : Limits) (n : ℕ) : Type 0 where
    pub message : RequestMessage Q QH
    pub waits : Waits new n message
    pub served : (server : ℕ) (entries : List (RequestMessage Q QH)) → IsServed old server entries →
        length entries < limits.max_active_requests_per_client → IsServed new server (entries ++ message ∷ [])

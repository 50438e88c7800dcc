-- Receives of servers and of pending responses.
use Rattle.std.specs.Prelude.{◌≡◌, ◌≢◌, ℕ, ◌+◌, Bool, not, ◌&&◌, IsTrue, IsFalse, List, [], ◌∷◌, Option, Some, None, IsSome, IsSomeAnd, Result, Ok, Err}
use Rattle.std.specs.FinMap as fin_map
use Rattle.rr_protocol.specs.declared.error.ReceiveError.{ReceiveError}
use Rattle.rr_protocol.specs.Lists.{at, with_at}
use Rattle.rr_protocol.specs.Keys.{RequestKey, ResponseKey, request_key}
use Rattle.rr_protocol.specs.Messages.{RequestMessage, ResponseMessage, ActiveRequest, Response, response_key}
use Rattle.rr_protocol.specs.State.{State, server_at, pending_at}
use Rattle.rr_protocol.specs.Counts.{has_request_room, has_response_room, is_alive}
use Rattle.rr_protocol.specs.Releases.{without_empty_clients, without_empty_servers}

module _ {Q QH P PH K : Type 0} where
  -- a dead request, which no server receives any more
  abbrev pub is_dead : State Q QH P PH K → RequestMessage Q QH → Bool
  is_dead s message = not (is_alive s message.number) && not s.limits.enable_fire_and_forget_requests

  -- this is the first request of a list with room, and it leaves the list
  abbrev pub TakesRequest : State Q QH P PH K → RequestKey → RequestMessage Q QH → State Q QH P PH K → Type 0
  TakesRequest old key message new =
      IsTrue (has_request_room old key)
      × ((rest : List (RequestMessage Q QH)) × (at old.requests key ≡ message ∷ rest)
      × (new ≡ without_empty_clients (record old { requests = with_at old.requests key rest }) key.server))

  -- dead requests leave the fronts of the lists from these clients to the server, one after another
  abbrev pub Skims : State Q QH P PH K → ℕ → List ℕ → State Q QH P PH K → Type 0
  Skims old server [] new = new ≡ old
  Skims old server (client ∷ clients) new =
      (message : RequestMessage Q QH) × (mid : State Q QH P PH K) × IsTrue (is_dead old message)
      × TakesRequest old (request_key client server) message mid × Skims mid server clients new

  -- after a server received a request
  abbrev pub with_active_request : State Q QH P PH K → ℕ → RequestMessage Q QH → State Q QH P PH K
  with_active_request s server message =
      record s {
        handles =
            fin_map.insert s.handles s.next (ActiveRequest (record { message = message; server = server }));
        next = s.next + 1;
      }

  -- a server's receive without skimming
  abbrev pub ReceivesUnskimmed : State Q QH P PH K → ℕ → Result (Option ℕ) ReceiveError → State Q QH P PH K → Type 0
  -- the first request of some list with room, which is not dead
  ReceivesUnskimmed old server (Ok (Some number)) new =
      (number ≡ old.next)
      × ((client : ℕ) × (message : RequestMessage Q QH) × (mid : State Q QH P PH K)
      × TakesRequest old (request_key client server) message mid
      × IsFalse (is_dead old message) × (new ≡ with_active_request mid server message))
  -- all lists are empty
  ReceivesUnskimmed old server (Ok None) new =
      ((client : ℕ) → at old.requests (request_key client server) ≡ []) × (new ≡ old)
  -- all lists with room are empty, and one without room is not
  ReceivesUnskimmed old server (Err ReceiveError.ExceedsMaxBorrows) new =
      ((client : ℕ) → IsTrue (has_request_room old (request_key client server))
      → at old.requests (request_key client server) ≡ [])
      × ((client : ℕ) × IsFalse (has_request_room old (request_key client server))
      × (at old.requests (request_key client server) ≢ []))
      × (new ≡ old)
  ReceivesUnskimmed old server (Err (ReceiveError.ConnectionFailure failure)) new = ⊥

  -- a server receives: dead requests may be dropped first; then one request is received, or none can be
  abbrev pub ReceivesRequest : State Q QH P PH K → ℕ → Result (Option ℕ) ReceiveError → State Q QH P PH K → Type 0
  ReceivesRequest old n result new =
      IsSome (server_at old n) × ((skimmed : List ℕ) × (mid : State Q QH P PH K) × Skims old n skimmed mid
      × ReceivesUnskimmed mid n result new)

  -- this is the first response of a list with room, and it leaves the list
  abbrev pub TakesResponse : State Q QH P PH K → ResponseKey → ResponseMessage P PH → State Q QH P PH K → Type 0
  TakesResponse old key message new =
      IsTrue (has_response_room old key)
      × ((rest : List (ResponseMessage P PH)) × (at old.responses key ≡ message ∷ rest)
      × (new ≡ without_empty_servers (record old { responses = with_at old.responses key rest }) key.client))

  -- a pending response receives from the lists of its channel; a response keeps its number
  abbrev pub ReceivesResponse : State Q QH P PH K → ℕ → Result (Option ℕ) ReceiveError → State Q QH P PH K → Type 0
  -- the first response of some list with room
  ReceivesResponse old n (Ok (Some number)) new =
      IsSomeAnd (pending_at old n) (λ pending.
      (server : ℕ) × (message : ResponseMessage P PH) × (mid : State Q QH P PH K)
      × TakesResponse old (response_key pending server) message mid
      × (number ≡ message.number) × (new ≡ record mid
      { handles = fin_map.insert mid.handles number (Response message) }))
  -- all lists are empty
  ReceivesResponse old n (Ok None) new =
      IsSomeAnd (pending_at old n) (λ pending.
      ((server : ℕ) → at old.responses (response_key pending server) ≡ []) × (new ≡ old))
  -- all lists with room are empty, and one without room is not
  ReceivesResponse old n (Err ReceiveError.ExceedsMaxBorrows) new =
      IsSomeAnd (pending_at old n) (λ pending.
      ((server : ℕ) → IsTrue (has_response_room old (response_key pending server))
      → at old.responses (response_key pending server) ≡ [])
      × ((server : ℕ) × IsFalse (has_response_room old (response_key pending server))
      × (at old.responses (response_key pending server) ≢ []))
      × (new ≡ old))
  ReceivesResponse old n (Err (ReceiveError.ConnectionFailure failure)) new = ⊥

-- The senders that a receiver lists as left: at most as many as it has room for, each once, and each with an entry
-- that still waits.
use Rattle.std.specs.Prelude.{◌≡◌, ℕ, ◌≤◌, true, false, List, [], map, length, nat_eq}
use Rattle.std.specs.List.{AllByRecursion, IsDistinct}
use Rattle.rr_protocol.specs.Lists.{at}
use Rattle.rr_protocol.specs.Ports.{Client, Server}
use Rattle.rr_protocol.specs.State.{State}
use Rattle.rr_protocol.specs.Releases.{has_requests_from, has_responses_from, room_for_expired_clients}
use Rattle.rr_laws.specs.Reached.{has_client, has_server, is_port}

module _ {Q QH P PH K : Type 0} where
  -- the facts of the senders that the port with this number lists as left
  pub record SendersFit (s : State Q QH P PH K) (n : ℕ) (senders : List ℕ) : Type 0 where
    -- a connected server lists no more clients than it has room for
    pub few_clients : has_server s.servers n ≡ true → length senders ≤ room_for_expired_clients s
    -- a connected client lists no more servers than it has room for
    pub few_servers : has_client s.clients n ≡ true → length senders ≤ s.limits.client_expired_connection_buffer
    -- a port that is not connected lists none
    pub nobody : is_port s.clients s.servers n ≡ false → senders ≡ []
    -- a connected server has a request from each client that it lists
    pub requests : has_server s.servers n ≡ true → AllByRecursion (λ c. has_requests_from s n c ≡ true) senders
    -- a connected client has a response from each server that it lists
    pub responses : has_client s.clients n ≡ true → AllByRecursion (λ c. has_responses_from s n c ≡ true) senders
    -- no port is listed twice
    pub once : IsDistinct nat_eq senders

  -- the facts of all lists of senders that left, and of the numbers of the ports that have them
  pub record ExpiredFit (s : State Q QH P PH K) : Type 0 where
    -- no two connected clients have one number
    pub each_client : IsDistinct nat_eq (map (λ (c : Client K). c.id) s.clients)
    -- no two connected servers have one number
    pub each_server : IsDistinct nat_eq (map (λ (c : Server K). c.id) s.servers)
    -- each list fits
    pub each_list : (n : ℕ) → SendersFit s n (at s.expired n)

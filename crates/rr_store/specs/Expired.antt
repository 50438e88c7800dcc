-- The ports that left of which receivers still have messages.
use Rattle.std.specs.Prelude.{ℕ, Bool, ◌==◌, ◌&&◌, List, ◌++◌, map, filter}
use Rattle.std.specs.List.{list_any}
use Rattle.std.specs.Ordering.{nat_cmp}
use Rattle.rr_protocol.specs.Lists.{Lists, filled_keys, lists_by}
use Rattle.rr_protocol.specs.Keys.{request_key_cmp, response_key_cmp}

module _ {X : Type 0} (requests : Lists request_key_cmp X) where
  -- whether the list from a client to a server has a request
  abbrev pub requests_from : ℕ → ℕ → Bool
  requests_from server client = list_any (λ key. key.server == server && key.client == client) (filled_keys requests)

module _ {Y : Type 0} (responses : Lists response_key_cmp Y) where
  -- whether some channel from a server to a client has a response
  abbrev pub responses_from : ℕ → ℕ → Bool
  responses_from client server =
      list_any (λ key. key.server == server && key.client == client) (filled_keys responses)

module _ {X Y : Type 0} (requests : Lists request_key_cmp X) (responses : Lists response_key_cmp Y) where
  -- of the clients and servers that left, those of which a port has messages, in the order in which they left
  abbrev pub expired_to : List ℕ → List ℕ → ℕ → List ℕ
  expired_to clients servers n =
      filter (requests_from requests n) clients ++ filter (responses_from responses n) servers

  -- the ports that have messages
  abbrev pub receivers : List ℕ
  receivers = map (λ key. key.server) (filled_keys requests) ++ map (λ key. key.client) (filled_keys responses)

  -- the same of each port
  abbrev pub expired_of : List ℕ → List ℕ → Lists nat_cmp ℕ
  expired_of clients servers = lists_by receivers (expired_to clients servers)

-- The keys of lists of entries, and their order.
use Rattle.std.specs.Prelude.{ℕ}
use Rattle.std.specs.declared.cmp.Ordering.{Ordering}
use Rattle.std.specs.Ordering.{ordering_then, nat_cmp}

-- the requests of one client to one server
pub record RequestKey : Type 0 where
  pub client : ℕ
  pub server : ℕ

-- the responses of one server to one client on one of its channels
pub record ResponseKey : Type 0 where
  pub server : ℕ
  pub client : ℕ
  pub channel : ℕ

-- the key of this client and this server
abbrev pub request_key : ℕ → ℕ → RequestKey
request_key client server = record { client = client; server = server }

-- by client, and then by server
abbrev pub request_key_cmp : RequestKey → RequestKey → Ordering
request_key_cmp a b = ordering_then (nat_cmp a.client b.client) (nat_cmp a.server b.server)

-- by server, then by client, and then by channel
abbrev pub response_key_cmp : ResponseKey → ResponseKey → Ordering
response_key_cmp a b =
    ordering_then (nat_cmp a.server b.server)
    (ordering_then (nat_cmp a.client b.client) (nat_cmp a.channel b.channel))

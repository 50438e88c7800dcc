-- A port whose value lives is found by its number, and its settings are read.
use Rattle.std.proofs.Common.{◌≡◌, ℕ, List, None, Some, find, map, refl, sym, ap, ◌∙◌, subst}
use Rattle.std.specs.Prelude.{◌==◌, IsSome, IsSomeAnd, slice_get}
use Rattle.std.specs.List.{position}
use Rattle.rr_protocol.specs.declared.kind.Kind.{Kind}
use Rattle.rr_protocol.specs.Ports.{Port}
use Rattle.rr_protocol.specs.Queries.{kind_at}
use Rattle.rr_protocol.specs.State.{State, client_at, server_at}
use Rattle.rr_store.specs.declared.port.ClientPort.{ClientPort}
use Rattle.rr_store.specs.declared.port.ServerPort.{ServerPort}
use Rattle.rr_store.specs.Order.{IsRising}
use Rattle.rr_store.specs.Parts.{Parts, ServerPart}
use Rattle.rr_store.specs.Ports.{client_part, server_part}
use Rattle.rr_store.specs.Reaching.{IsCore}
use Rattle.rr_store.specs.Views.{client_of, server_of, state_of}
use Rattle.rr_store.proofs.base.lists.Seen.{kept_rising, kept_some, seen_at, seen_found}
use Rattle.rr_store.proofs.base.lookups.Apart.{no_client}
use Rattle.rr_store.proofs.base.lookups.Numbers.{client_there, server_there}
use Rattle.rr_hub.proofs.queries.Naming.{clients_asked, servers_asked}
use Rattle.rr_hub.proofs.queries.Named.{named_there, of_named}

-- ports that rise by their numbers, and one of them with a number
abbrev pub HasNumbered : {A : Type 0} → (A → ℕ) → List A → ℕ → Type 0
HasNumbered id ports n = record { rising : IsRising id ports; present : IsSome (position (λ a. id a == n) ports) }

-- ports that are kept, which parts they are, how contracts see those, and their numbers
module _ {A X Y : Type 0} (part : A → X) (seen : X → Y) (id : Y → ℕ) (ports : List A) (parts : List X)
    (are : map part ports ≡ parts) (n : ℕ)
  where
    -- one is there where contracts see one
    numbered : IsRising (λ x. id (seen x)) parts → (find (λ y. id y == n) (map seen parts) ≡ None → ⊥)
        → HasNumbered (λ a. id (seen (part a))) ports n
    numbered rises there = record {
      rising = kept_rising part ports (λ x. id (seen x)) (subst (IsRising (λ x. id (seen x))) (sym are) rises);
      present = kept_some part ports (λ x. id (seen x) == n)
          (named_there seen id (map part ports) n (subst (λ xs. find (λ y. id y == n) (map seen xs) ≡ None → ⊥) (sym are) there));
    }

    -- what is read of the one at an index is true of the one that contracts see
    read_at : (index : ℕ) → position (λ a. id (seen (part a)) == n) ports ≡ Some index → (port : A) → slice_get ports index ≡ Some port
        → (R : Y → Type 0) → R (seen (part port)) → IsSomeAnd (find (λ y. id y == n) (map seen parts)) R
    read_at index found port there R is =
        subst (λ xs. IsSomeAnd (find (λ y. id y == n) (map seen xs)) R) are
        (of_named seen id (map part ports) n index (seen_found part ports (λ x. id (seen x) == n) index found) R
        (seen_at part ports index (λ x. R (seen x)) (subst (λ o. IsSomeAnd o (λ a. R (seen (part a)))) (sym there) is)))

module _ {Q QH P PH K : Type 0} {p : Parts Q QH P PH K} {s : State Q QH P PH K} (core : IsCore p) (view : state_of p ≡ s) (n : ℕ) where
  module _ (ports : List (ClientPort K)) (are : map client_part ports ≡ p.clients) where
    -- there is a client with the number
    pub client_asked : kind_at s n ≡ Some Kind.Client → HasNumbered (λ (c : ClientPort K). c.port.id) ports n
    client_asked kind =
        numbered client_part client_of (λ c. c.port.id) ports p.clients are n (clients_asked p core n)
        (client_there (state_of p) n (ap (λ t. kind_at t n) view ∙ kind))

    -- what is read of it is true of the one that contracts see
    pub client_then : (index : ℕ) → position (λ (c : ClientPort K). c.port.id == n) ports ≡ Some index → (port : ClientPort K)
        → slice_get ports index ≡ Some port → {X : Type 0} → (read : Port K → X)
        → IsSomeAnd (client_at s n) (λ c. read (client_part port).port ≡ read c.port)
    client_then index found port there read =
        subst (λ t. IsSomeAnd (client_at t n) (λ c. read (client_part port).port ≡ read c.port)) view
        (read_at client_part client_of (λ c. c.port.id) ports p.clients are n index found port there
        (λ c. read (client_part port).port ≡ read c.port) refl)

  module _ (ports : List (ServerPort K)) (are : map server_part ports ≡ p.servers) where
    -- there is a server with the number
    pub server_asked : kind_at s n ≡ Some Kind.Server → HasNumbered (λ (s : ServerPort K). s.port.id) ports n
    server_asked kind =
        numbered server_part server_of (λ s. s.port.id) ports p.servers are n (servers_asked p core n)
        (server_there (state_of p) n (ap (λ t. kind_at t n) view ∙ kind))

    module _ (index : ℕ) (found : position (λ (s : ServerPort K). s.port.id == n) ports ≡ Some index) where
      -- what is read of it is true of the one that contracts see
      pub server_then : (port : ServerPort K) → slice_get ports index ≡ Some port → {X : Type 0} → (read : Port K → X)
          → IsSomeAnd (server_at s n) (λ s. read (server_part port).port ≡ read s.port)
      server_then port there read =
          subst (λ t. IsSomeAnd (server_at t n) (λ s. read (server_part port).port ≡ read s.port)) view
          (read_at server_part server_of (λ s. s.port.id) ports p.servers are n index found port there
          (λ s. read (server_part port).port ≡ read s.port) refl)

      -- the number is no client's
      pub server_apart : client_at s n ≡ None
      server_apart =
          sym (ap (λ t. client_at t n) view)
          ∙ no_client p core n index (subst (λ xs. position (λ (s : ServerPart K). s.port.id == n) xs ≡ Some index) are
          (seen_found server_part ports (λ (s : ServerPart K). s.port.id == n) index found))

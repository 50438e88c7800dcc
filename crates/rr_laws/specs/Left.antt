-- The ports that left: facts of the numbers of ports, and of those that are listed as left.
use Rattle.std.specs.Prelude.{◌≡◌, ℕ, ◌<◌, true, false, List}
use Rattle.std.specs.List.{AllByRecursion}
use Rattle.std.specs.Ordering.{nat_cmp}
use Rattle.rr_protocol.specs.Lists.{Lists, at}
use Rattle.rr_protocol.specs.Ports.{Client, Server}
use Rattle.rr_protocol.specs.State.{State}
use Rattle.rr_laws.specs.Reached.{has_client, has_server}

-- a number that was given, and names no connected port
pub record IsGone {K : Type 0} (clients : List (Client K)) (servers : List (Server K)) (next n : ℕ) : Type 0 where
  pub below : n < next
  pub no_client : has_client clients n ≡ false
  pub no_server : has_server servers n ≡ false

-- no number is both a client's and a server's, and each port that is listed as left is no longer connected
pub record LeftFit {K : Type 0} (clients : List (Client K)) (servers : List (Server K)) (expired : Lists nat_cmp ℕ)
    (next : ℕ) : Type 0 where
  pub one_kind : (n : ℕ) → has_client clients n ≡ true → has_server servers n ≡ false
  pub gone : (receiver : ℕ) → AllByRecursion (IsGone clients servers next) (at expired receiver)

-- both, in a state
abbrev pub IsLeftFit : {Q QH P PH K : Type 0} → State Q QH P PH K → Type 0
IsLeftFit s = LeftFit s.clients s.servers s.expired s.next

-- Servers in a list.
use Rattle.std.specs.Prelude.{ℕ, List}
use Rattle.std.specs.List.{All}
use Rattle.rr_protocol.specs.declared.kind.Kind.TheVariants as kind
use Rattle.rr_protocol.specs.State.{State}
use Rattle.rr_ports.specs.Facts.{Names}

-- each names a server whose value lives
unfoldable pub AreServers : {Q QH P PH K : Type 0} → State Q QH P PH K → List ℕ → Type 0
AreServers s servers = All (λ server. Names s server kind.Server) servers

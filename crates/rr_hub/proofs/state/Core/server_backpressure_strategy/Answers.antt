use Rattle.std.proofs.Common.{refl}
use Rattle.rr_hub.proofs.queries.Ports.{server_asked, server_then, server_apart}
use Rattle.rr_hub.proofs.state.Core.server_backpressure_strategy.Goals as goal

pub index_of-index-requires-clause-rising : goal.index_of-index-requires-clause-rising
index_of-index-requires-clause-rising g c = (server_asked c.self.invariant c.self.view_is c.args.server _ refl c.requires).rising

pub index_of-index-requires-clause-present : goal.index_of-index-requires-clause-present
index_of-index-requires-clause-present g c = (server_asked c.self.invariant c.self.view_is c.args.server _ refl c.requires).present

pub returns-clause-strategy : goal.returns-clause-strategy
returns-clause-strategy g c =
    server_then c.self.invariant c.self.view_is c.args.server c.self.inside.parts.servers.ports refl _ c.index_of-index.ensures _
    c.port.ensures (λ port. port.strategy)

pub returns-clause-apart : goal.returns-clause-apart
returns-clause-apart g c =
    server_apart c.self.invariant c.self.view_is c.args.server c.self.inside.parts.servers.ports refl _ c.index_of-index.ensures

use Rattle.std.proofs.Common.{refl}
use Rattle.rr_hub.proofs.queries.Ports.{client_asked, client_then}
use Rattle.rr_hub.proofs.state.Core.client_backpressure_strategy.Goals as goal

pub index_of-index-requires-clause-rising : goal.index_of-index-requires-clause-rising
index_of-index-requires-clause-rising g c = (client_asked c.self.invariant c.self.view_is c.args.client _ refl c.requires).rising

pub index_of-index-requires-clause-present : goal.index_of-index-requires-clause-present
index_of-index-requires-clause-present g c = (client_asked c.self.invariant c.self.view_is c.args.client _ refl c.requires).present

pub returns : goal.returns
returns g c =
    client_then c.self.invariant c.self.view_is c.args.client c.self.inside.parts.clients.ports refl _ c.index_of-index.ensures _
    c.port.ensures (λ port. port.strategy)

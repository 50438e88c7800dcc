use Rattle.rr_store.specs.Opened.{opened}
use Rattle.rr_hub.proofs.queries.Pending.{connections_then}
use Rattle.rr_hub.proofs.state.Core.number_of_server_connections.Goals as goal

pub returns : goal.returns
returns g c =
    rw (← c.self.view_is) (connections_then (opened c.self.inside.parts) c.self.invariant _ _ _ c.look_up.ensures.1
    (rw (← c.self.view_is) at c.requires) _
    c.connections.ensures)

use Rattle.std.proofs.Common.{◌≡◌, refl}
use Rattle.std.specs.Prelude.{◌==◌}
use Rattle.rr_store.specs.Opened.{opened}
use Rattle.rr_store.specs.Parts.{ServerPart}
use Rattle.rr_store.specs.Ports.{server_part}
use Rattle.rr_store.specs.Draining.{HaveQueues}
use Rattle.rr_store.specs.Receiving.{HaveChannels}
use Rattle.rr_store.proofs.base.senders.Connected.{reached_apart}
use Rattle.rr_store.proofs.base.lists.Seen.{seen_at, seen_found}
use Rattle.rr_store.proofs.base.lookups.Apart.{no_handle}
use Rattle.rr_receiving.proofs.steps.Waiting.{requests_asked, requests_then}
use Rattle.rr_hub.proofs.queries.Ports.{server_asked}
use Rattle.rr_hub.proofs.state.Core.has_requests.Goals.{After-receiver_of_port-receiver}
use Rattle.rr_hub.proofs.state.Core.has_requests.Goals as goal

pub index_of-index-requires-clause-rising : goal.index_of-index-requires-clause-rising
index_of-index-requires-clause-rising g c = (server_asked c.self.invariant c.self.view_is c.args.server _ refl c.requires).rising

pub index_of-index-requires-clause-present : goal.index_of-index-requires-clause-present
index_of-index-requires-clause-present g c = (server_asked c.self.invariant c.self.view_is c.args.server _ refl c.requires).present

-- each client's sender reaches the server
reach : (g : _) (c : After-receiver_of_port-receiver g) → HaveQueues c.self.inside.parts.clients.senders c.receiver_of_port-receiver.result
    × HaveChannels c.self.inside.parts.clients.senders c.receiver_of_port-receiver.result 0
reach g c =
    reached_apart _ _ _
    (requests_asked (opened c.self.inside.parts) c.self.invariant c.args.server _ (seen_found server_part c.self.inside.parts.servers.ports
    (λ (x : ServerPart _). x.port.id == c.args.server) _ c.index_of-index.ensures) _ (seen_at server_part c.self.inside.parts.servers.ports
    c.index_of-index.result (λ (x : ServerPart _). c.receiver_of_port-receiver.result ≡ x.receiver) c.receiver_of_port-receiver.ensures))

pub is_waiting-requires-clause-receiver : goal.is_waiting-requires-clause-receiver
is_waiting-requires-clause-receiver g c = (reach g (goal.at.is_waiting-requires-clause-receiver g c).After-receiver_of_port-receiver).0

pub is_waiting-requires-clause-channel : goal.is_waiting-requires-clause-channel
is_waiting-requires-clause-channel g c = (reach g (goal.at.is_waiting-requires-clause-channel g c).After-receiver_of_port-receiver).1

pub returns-clause-waits : goal.returns-clause-waits
returns-clause-waits g c =
    rw (← c.self.view_is) (requests_then (opened c.self.inside.parts) c.self.invariant c.args.server _ (seen_found server_part
    c.self.inside.parts.servers.ports
    (λ (x : ServerPart _). x.port.id == c.args.server) _ c.index_of-index.ensures) _ (seen_at server_part c.self.inside.parts.servers.ports
    c.index_of-index.result (λ (x : ServerPart _). c.receiver_of_port-receiver.result ≡ x.receiver) c.receiver_of_port-receiver.ensures) _
    c.is_waiting.ensures)

pub returns-clause-apart : goal.returns-clause-apart
returns-clause-apart g c =
    rw (← c.self.view_is) (no_handle (opened c.self.inside.parts) c.self.invariant c.args.server (rw (← c.self.view_is) at c.requires))

use Rattle.rr_store.specs.Draining.{HaveQueues}
use Rattle.rr_store.specs.Receiving.{HaveChannels}
use Rattle.rr_store.proofs.base.senders.Connected.{reached_apart}
use Rattle.rr_receiving.proofs.steps.Waiting.{responses_asked, responses_then}
use Rattle.rr_hub.proofs.Looks.{pending_asked, under}
use Rattle.rr_hub.proofs.state.Core.has_response.Goals.{After-receiver_of-receiver}
use Rattle.rr_hub.proofs.state.Core.has_response.Goals as goal

pub receiver_of-receiver-requires : goal.receiver_of-receiver-requires
receiver_of-receiver-requires g c =
    (pending_asked c.self.invariant c.self.view_is c.args.id.now c.look_up-entry.ensures c.requires).sender

-- each server's sender reaches the client
reach : (g : _) (c : After-receiver_of-receiver g) → HaveQueues c.self.inside.parts.servers.senders c.receiver_of-receiver.result
    × HaveChannels c.self.inside.parts.servers.senders c.receiver_of-receiver.result c.look_up-entry.result.slot
reach g c =
    reached_apart _ _ _
    (responses_asked _ c.self.invariant _ _ _ (under c.self.invariant c.self.view_is c.args.id.now c.look_up-entry.ensures)
    (rw (← c.self.view_is) at c.requires) _ c.receiver_of-receiver.ensures)

pub is_waiting-requires-clause-receiver : goal.is_waiting-requires-clause-receiver
is_waiting-requires-clause-receiver g c = (reach g (goal.at.is_waiting-requires-clause-receiver g c).After-receiver_of-receiver).0

pub is_waiting-requires-clause-channel : goal.is_waiting-requires-clause-channel
is_waiting-requires-clause-channel g c = (reach g (goal.at.is_waiting-requires-clause-channel g c).After-receiver_of-receiver).1

pub returns : goal.returns
returns g c =
    rw (← c.self.view_is) (responses_then _ c.self.invariant _ _ _
    (under c.self.invariant c.self.view_is c.args.id.now c.look_up-entry.ensures)
    (rw (← c.self.view_is) at c.requires) _ c.receiver_of-receiver.ensures _ c.is_waiting.ensures)

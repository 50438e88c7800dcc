use Rattle.rr_store.specs.Views.{no_response}
use Rattle.rr_sending.proofs.steps.DeliverableResponse.{sender_asked, slot_asked, queue_asked, told_then}
use Rattle.rr_hub.proofs.Looks.{under}
use Rattle.rr_hub.proofs.state.Core.is_response_deliverable.Goals as goal

pub details-details-requires-clause-sender : goal.details-details-requires-clause-sender
details-details-requires-clause-sender g c =
    sender_asked _ c.self.invariant _ _ _ (under c.self.invariant c.self.view_is c.args.id.now c.look_up-entry.ensures)
    (rw (← c.self.view_is) at c.requires)

pub details-details-requires-clause-slot : goal.details-details-requires-clause-slot
details-details-requires-clause-slot g c =
    slot_asked _ c.self.invariant _ _ _ (under c.self.invariant c.self.view_is c.args.id.now c.look_up-entry.ensures)
    (rw (← c.self.view_is) at c.requires)

pub takes_response-requires : goal.takes_response-requires
takes_response-requires g c =
    let at = under c.self.invariant c.self.view_is c.args.id.now c.look_up-entry.ensures in
    let kind = rw (← c.self.view_is) at c.requires in record {
      sender = sender_asked _ c.self.invariant _ _ _ at kind;
      queue = queue_asked _ c.self.invariant _ _ _ at kind _ (c.details-details.ensures no_response) _ c.reached_receiver-reach.ensures;
    }

pub returns : goal.returns
returns g c =
    rw (← c.self.view_is) (told_then _ c.self.invariant _ _ _
    (under c.self.invariant c.self.view_is c.args.id.now c.look_up-entry.ensures) (rw (← c.self.view_is) at c.requires) _
    (c.details-details.ensures no_response) _ c.reached_receiver-reach.ensures _ c.takes_response.ensures)

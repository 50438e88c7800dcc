use Rattle.rr_sending.proofs.steps.DeliverableRequest.{sender_asked, queues_asked, told_then}
use Rattle.rr_hub.proofs.Looks.{under}
use Rattle.rr_hub.proofs.state.Core.is_request_deliverable.Goals as goal

pub takes_request-requires : goal.takes_request-requires
takes_request-requires g c =
    let at = under c.self.invariant c.self.view_is c.args.id.now c.look_up-entry.ensures in
    let kind = rw (← c.self.view_is) at c.requires in record {
      sender = sender_asked _ c.self.invariant _ _ _ at kind;
      queues = queues_asked _ c.self.invariant _ _ _ at kind;
    }

pub returns : goal.returns
returns g c =
    rw (← c.self.view_is) (told_then _ c.self.invariant _ _ _
    (under c.self.invariant c.self.view_is c.args.id.now c.look_up-entry.ensures) (rw (← c.self.view_is) at c.requires) _
    c.takes_request.ensures)

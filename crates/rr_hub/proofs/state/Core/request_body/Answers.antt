use Rattle.std.proofs.Common.{ap}
use Rattle.rr_slots.specs.Pools.{Written}
use Rattle.rr_hub.proofs.Looks.{request_slot, request_then}
use Rattle.rr_hub.proofs.state.Core.request_body.Goals as goal

pub body-requires-clause-sender : goal.body-requires-clause-sender
body-requires-clause-sender g c = (request_slot c.self.invariant c.self.view_is c.args.id.now c.look_up-entry.ensures c.requires).sender

pub body-requires-clause-slot : goal.body-requires-clause-slot
body-requires-clause-slot g c = (request_slot c.self.invariant c.self.view_is c.args.id.now c.look_up-entry.ensures c.requires).slot

pub returns-clause-asked : goal.returns-clause-asked
returns-clause-asked g c =
    request_then c.self.invariant c.self.view_is c.args.id.now c.look_up-entry.ensures c.requires _
    (ap (λ (w : Written _). w.asked_len) c.body.ensures)

pub returns-clause-elements : goal.returns-clause-elements
returns-clause-elements g c =
    request_then c.self.invariant c.self.view_is c.args.id.now c.look_up-entry.ensures c.requires _
    (ap (λ (w : Written _). w.elements) c.body.ensures)

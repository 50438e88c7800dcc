use Rattle.rr_store.specs.Views.{no_response}
use Rattle.rr_hub.proofs.Looks.{response_slot, response_header_then}
use Rattle.rr_hub.proofs.state.Core.response_header.Goals as goal

pub details-details-requires-clause-sender : goal.details-details-requires-clause-sender
details-details-requires-clause-sender g c =
    (response_slot c.self.invariant c.self.view_is c.args.id.now c.look_up-entry.ensures c.requires).sender

pub details-details-requires-clause-slot : goal.details-details-requires-clause-slot
details-details-requires-clause-slot g c =
    (response_slot c.self.invariant c.self.view_is c.args.id.now c.look_up-entry.ensures c.requires).slot

pub body-requires-clause-sender : goal.body-requires-clause-sender
body-requires-clause-sender g c = (response_slot c.self.invariant c.self.view_is c.args.id.now c.look_up-entry.ensures c.requires).sender

pub body-requires-clause-slot : goal.body-requires-clause-slot
body-requires-clause-slot g c = (response_slot c.self.invariant c.self.view_is c.args.id.now c.look_up-entry.ensures c.requires).slot

pub returns : goal.returns
returns g c =
    response_header_then c.self.invariant c.self.view_is c.args.id.now c.look_up-entry.ensures c.requires _
    (c.details-details.ensures no_response) _ c.body.ensures _ c.asked_len-asked_len.ensures

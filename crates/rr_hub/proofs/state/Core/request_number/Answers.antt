use Rattle.rr_store.specs.Views.{no_request}
use Rattle.rr_hub.proofs.Looks.{received_asked, received_number}
use Rattle.rr_hub.proofs.state.Core.request_number.Goals as goal

pub details-requires-clause-sender : goal.details-requires-clause-sender
details-requires-clause-sender g c =
    (received_asked c.self.invariant c.self.view_is c.args.id.now c.look_up-entry.ensures c.requires).sender

pub details-requires-clause-slot : goal.details-requires-clause-slot
details-requires-clause-slot g c = (received_asked c.self.invariant c.self.view_is c.args.id.now c.look_up-entry.ensures c.requires).slot

pub returns : goal.returns
returns g c =
    received_number c.self.invariant c.self.view_is c.args.id.now c.look_up-entry.ensures c.requires _ (c.details.ensures no_request)

use Rattle.rr_hub.proofs.Looks.{request_slot, request_then}
use Rattle.rr_hub.proofs.state.Core.request_user_header.Goals as goal

pub user_header-requires-clause-sender : goal.user_header-requires-clause-sender
user_header-requires-clause-sender g c =
    (request_slot c.self.invariant c.self.view_is c.args.id.now c.look_up-entry.ensures c.requires).sender

pub user_header-requires-clause-slot : goal.user_header-requires-clause-slot
user_header-requires-clause-slot g c = (request_slot c.self.invariant c.self.view_is c.args.id.now c.look_up-entry.ensures c.requires).slot

pub returns : goal.returns
returns g c = request_then c.self.invariant c.self.view_is c.args.id.now c.look_up-entry.ensures c.requires _ c.user_header.ensures

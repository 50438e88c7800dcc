use Rattle.rr_hub.proofs.Looks.{response_slot, response_then}
use Rattle.rr_hub.proofs.state.Core.response_user_header.Goals as goal

pub user_header-requires-clause-sender : goal.user_header-requires-clause-sender
user_header-requires-clause-sender g c =
    (response_slot c.self.invariant c.self.view_is c.args.id.now c.look_up-entry.ensures c.requires).sender

pub user_header-requires-clause-slot : goal.user_header-requires-clause-slot
user_header-requires-clause-slot g c = (response_slot c.self.invariant c.self.view_is c.args.id.now c.look_up-entry.ensures c.requires).slot

pub returns : goal.returns
returns g c = response_then c.self.invariant c.self.view_is c.args.id.now c.look_up-entry.ensures c.requires _ c.user_header.ensures

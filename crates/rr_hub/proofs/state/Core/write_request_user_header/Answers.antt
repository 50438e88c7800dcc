use Rattle.std.proofs.Common.{refl}
use Rattle.rr_hub.proofs.Looks.{loaned_request, request_header_written}
use Rattle.rr_hub.proofs.state.Core.write_request_user_header.Goals as goal

pub user_header_mut-requires : goal.user_header_mut-requires
user_header_mut-requires g c = loaned_request c.self.invariant c.self.view_is c.args.id.now c.look_up-entry.ensures c.requires

pub invariant_of-self : goal.invariant_of-self
invariant_of-self g c = (request_header_written c.self.invariant c.self.view_is c.args.id.now c.look_up-entry.ensures c.requires c.args.header _ refl).0

pub returns : goal.returns
returns g c = (request_header_written c.self.invariant c.self.view_is c.args.id.now c.look_up-entry.ensures c.requires c.args.header _ refl).1

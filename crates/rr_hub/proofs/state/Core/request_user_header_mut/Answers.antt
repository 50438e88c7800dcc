use Rattle.std.proofs.Common.{refl}
use Rattle.rr_writing.proofs.steps.Request.{header_told}
use Rattle.rr_hub.proofs.Looks.{loaned_request, request_loan, request_header_written, under}
use Rattle.rr_hub.proofs.state.Core.request_user_header_mut.Goals as goal

pub user_header_mut-requires-clause-sender : goal.user_header_mut-requires-clause-sender
user_header_mut-requires-clause-sender g c =
    (loaned_request c.self.invariant c.self.view_is c.args.id.now c.look_up-entry.ensures c.requires).sender

pub user_header_mut-requires-clause-slot : goal.user_header_mut-requires-clause-slot
user_header_mut-requires-clause-slot g c =
    (loaned_request c.self.invariant c.self.view_is c.args.id.now c.look_up-entry.ensures c.requires).slot

pub invariant_of-self-lent : goal.invariant_of-self-lent
invariant_of-self-lent g c w = (request_header_written c.self.invariant c.self.view_is c.args.id.now c.look_up-entry.ensures c.requires w _ refl).0

pub returns : goal.returns
returns g c = (
  (refl, λ w. (request_header_written c.self.invariant c.self.view_is c.args.id.now c.look_up-entry.ensures c.requires w _ refl).1),
  record {
    lends = tt;
    value = rw (← c.self.view_is) (header_told _ _ _ _ (under c.self.invariant c.self.view_is c.args.id.now c.look_up-entry.ensures)
        c.self.invariant (request_loan c.self.invariant c.self.view_is c.args.id.now c.look_up-entry.ensures c.requires)
        c.user_header_mut.result.now c.user_header_mut.ensures.value);
  },
)

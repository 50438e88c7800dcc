use Rattle.std.proofs.Common.{◌≡◌, refl}
use Rattle.rr_slots.specs.PoolLends as slot
use Rattle.rr_writing.proofs.steps.Request.{content_told, lent_core, lent_view}
use Rattle.rr_writing.proofs.steps.Lent.{refill_keeps}
use Rattle.rr_hub.specs.CoreLends.{refilled}
use Rattle.rr_hub.proofs.Looks.{loaned_request, request_loan, under}
use Rattle.rr_hub.proofs.state.Core.request_slice_mut.Goals as goal

pub slice_mut-requires-clause-sender : goal.slice_mut-requires-clause-sender
slice_mut-requires-clause-sender g c =
    (loaned_request c.self.invariant c.self.view_is c.args.id.now c.look_up-entry.ensures c.requires).sender

pub slice_mut-requires-clause-slot : goal.slice_mut-requires-clause-slot
slice_mut-requires-clause-slot g c =
    (loaned_request c.self.invariant c.self.view_is c.args.id.now c.look_up-entry.ensures c.requires).slot

pub invariant_of-self-lent : goal.invariant_of-self-lent
invariant_of-self-lent g c w =
    lent_core _ _ _ _ (under c.self.invariant c.self.view_is c.args.id.now c.look_up-entry.ensures)
    c.self.invariant (request_loan c.self.invariant c.self.view_is c.args.id.now c.look_up-entry.ensures c.requires)
    (slot.refilled w) (refilled w) (λ header v. refl) (refill_keeps w)

pub returns : goal.returns
returns g c =
    let at = under c.self.invariant c.self.view_is c.args.id.now c.look_up-entry.ensures in
    let loan = request_loan c.self.invariant c.self.view_is c.args.id.now c.look_up-entry.ensures c.requires in
    rw (← c.self.view_is) (
      (
        refl,
        λ w. lent_view _ _ _ _ at c.self.invariant loan
            (slot.refilled w) (refilled w) (λ header v. refl),
      ),
      record {
        lends = tt;
        value = content_told _ _ _ _ at c.self.invariant loan
            (λ v. v.elements ≡ c.slice_mut.result.now) c.slice_mut.ensures.value;
      },
    )

use Rattle.std.proofs.Common.{◌≡◌, ◌<◌, Some, length, refl}
use Rattle.std.specs.Prelude.{slice_get}
use Rattle.rr_slots.specs.Pools as slot
use Rattle.rr_protocol.specs.Writing.{with_element_at}
use Rattle.rr_laws.proofs.CompleteMessages.{element_keeps}
use Rattle.rr_writing.proofs.steps.Request.{content_told, content_seen, lent_core, lent_view}
use Rattle.rr_hub.proofs.Looks.{loaned_request, request_loan, under}
use Rattle.rr_hub.proofs.state.Core.request_element_mut.Goals as goal

pub element_mut-requires-clause-sender : goal.element_mut-requires-clause-sender
element_mut-requires-clause-sender g c =
    (loaned_request c.self.invariant c.self.view_is c.args.id.now c.look_up-entry.ensures c.requires.kind).sender

pub element_mut-requires-clause-index : goal.element_mut-requires-clause-index
element_mut-requires-clause-index g c =
    content_seen _ _ _ _ (under c.self.invariant c.self.view_is c.args.id.now c.look_up-entry.ensures)
    c.self.invariant (request_loan c.self.invariant c.self.view_is c.args.id.now c.look_up-entry.ensures c.requires.kind)
    (λ v. c.args.index < length v.elements) (rw (← c.self.view_is) at c.requires.inside)

pub invariant_of-self-lent : goal.invariant_of-self-lent
invariant_of-self-lent g c w =
    lent_core _ _ _ _ (under c.self.invariant c.self.view_is c.args.id.now c.look_up-entry.ensures)
    c.self.invariant (request_loan c.self.invariant c.self.view_is c.args.id.now c.look_up-entry.ensures c.requires.kind)
    (slot.with_element_at c.args.index w) (with_element_at c.args.index w) (λ header v. refl) (element_keeps c.args.index w)

pub returns : goal.returns
returns g c =
    let at = under c.self.invariant c.self.view_is c.args.id.now c.look_up-entry.ensures in
    let loan = request_loan c.self.invariant c.self.view_is c.args.id.now c.look_up-entry.ensures c.requires.kind in
    rw (← c.self.view_is) (
      (
        refl,
        λ w. lent_view _ _ _ _ at c.self.invariant loan
            (slot.with_element_at c.args.index w) (with_element_at c.args.index w) (λ header v. refl),
      ),
      record {
        lends = tt;
        value = content_told _ _ _ _ at c.self.invariant loan
            (λ v. slice_get v.elements c.args.index ≡ Some c.element_mut.result.now) c.element_mut.ensures.value;
      },
    )

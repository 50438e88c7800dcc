use Rattle.std.proofs.Common.{◌≡◌, refl, inl}
use Rattle.rr_slots.specs.Elements.{option_elements}
use Rattle.rr_slots.specs.Pools as slot
use Rattle.rr_protocol.specs.Writing.{with_elements}
use Rattle.rr_writing.proofs.steps.Request.{content_told, lent_core_uninit, lent_view}
use Rattle.rr_hub.proofs.Looks.{loaned_request, request_loan, under}
use Rattle.rr_hub.proofs.lend.Core+Option+T+QH+PB+PH+K.request_option_mut.Goals as goal

pub option_mut-requires-clause-sender : goal.option_mut-requires-clause-sender
option_mut-requires-clause-sender g c =
    (loaned_request c.self.invariant c.self.view_is c.args.id.now c.look_up-entry.ensures (inl c.requires)).sender

pub option_mut-requires-clause-slot : goal.option_mut-requires-clause-slot
option_mut-requires-clause-slot g c =
    (loaned_request c.self.invariant c.self.view_is c.args.id.now c.look_up-entry.ensures (inl c.requires)).slot

pub invariant_of-self-lent : goal.invariant_of-self-lent
invariant_of-self-lent g c w =
    lent_core_uninit _ _ _ _ (under c.self.invariant c.self.view_is c.args.id.now c.look_up-entry.ensures)
    c.self.invariant (request_loan c.self.invariant c.self.view_is c.args.id.now c.look_up-entry.ensures (inl c.requires))
    (slot.with_elements (option_elements w)) (with_elements (option_elements w)) (λ header v. refl) (rw (← c.self.view_is) at c.requires)

pub returns : goal.returns
returns g c =
    let at = under c.self.invariant c.self.view_is c.args.id.now c.look_up-entry.ensures in
    let loan = request_loan c.self.invariant c.self.view_is c.args.id.now c.look_up-entry.ensures (inl c.requires) in
    rw (← c.self.view_is) (
      (
        refl,
        λ w. lent_view _ _ _ _ at c.self.invariant loan
            (slot.with_elements (option_elements w)) (with_elements (option_elements w)) (λ header v. refl),
      ),
      record {
        lends = tt;
        value = content_told _ _ _ _ at c.self.invariant loan
            (λ v. v.elements ≡ option_elements c.option_mut.result.now) c.option_mut.ensures.value;
      },
    )

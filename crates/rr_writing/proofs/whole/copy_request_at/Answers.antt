use Rattle.std.proofs.Common.{length, refl, sym, ap, ◌∙◌}
use Rattle.rr_slots.specs.Pools as slot
use Rattle.rr_sender.specs.Senders.{with_changed_at}
use Rattle.rr_protocol.specs.Writing.{with_elements}
use Rattle.rr_store.specs.Sides.{with_sent}
use Rattle.rr_store.specs.Opened.{opened}
use Rattle.rr_writing.proofs.steps.Whole.{request_asks, request_copied, request_sender, request_slot, whole_request_core, whole_request_view}
use Rattle.rr_writing.proofs.whole.copy_request_at.Goals as goal

pub at-entry-requires : goal.at-entry-requires
at-entry-requires g c = c.requires.at

pub set_at-requires : goal.set_at-requires
set_at-requires g c = c.requires.at

pub copy-requires-clause-sender : goal.copy-requires-clause-sender
copy-requires-clause-sender g c =
    (request_sender (opened c.args.store.now) c.requires.core c.args.number c.args.place _ c.at-entry.ensures c.requires.kind)

pub copy-requires-clause-slot : goal.copy-requires-clause-slot
copy-requires-clause-slot g c =
    (request_slot (opened c.args.store.now) c.requires.core c.args.number c.args.place _ c.at-entry.ensures c.requires.kind)

pub copy-requires-clause-len : goal.copy-requires-clause-len
copy-requires-clause-len g c =
    sym (request_asks (opened c.args.store.now) c.requires.core c.args.number c.args.place _ c.at-entry.ensures c.requires.kind (length c.args.elements.now)
    c.requires.len)

pub returns-clause-core : goal.returns-clause-core
returns-clause-core g c =
    whole_request_core (opened c.args.store.now) c.requires.core c.args.number c.args.place _ c.at-entry.ensures c.requires.kind
    (slot.with_elements c.args.elements.now) (with_elements c.args.elements.now) (λ header w. refl)
    (request_copied (opened c.args.store.now) c.requires.core c.args.number c.args.place _ c.at-entry.ensures c.requires.kind
    c.args.elements.now c.requires.len) _ _ refl
    (ap (λ s. opened (record c.args.store.now { table = c.set_at.new.self; clients = s })) c.copy.ensures
    ∙ ap (λ t. opened (record c.args.store.now {
      table = t;
      clients = with_sent c.args.store.now.clients c.at-entry.result.sender (λ m. with_changed_at m c.at-entry.result.slot
          (slot.with_elements c.args.elements.now));
    })) c.set_at.ensures)

pub returns-clause-view : goal.returns-clause-view
returns-clause-view g c =
    whole_request_view (opened c.args.store.now) c.requires.core c.args.number c.args.place _ c.at-entry.ensures c.requires.kind
    (slot.with_elements c.args.elements.now) (with_elements c.args.elements.now) (λ header w. refl)
    (request_copied (opened c.args.store.now) c.requires.core c.args.number c.args.place _ c.at-entry.ensures c.requires.kind
    c.args.elements.now c.requires.len) _ _ refl
    (ap (λ s. opened (record c.args.store.now { table = c.set_at.new.self; clients = s })) c.copy.ensures
    ∙ ap (λ t. opened (record c.args.store.now {
      table = t;
      clients = with_sent c.args.store.now.clients c.at-entry.result.sender (λ m. with_changed_at m c.at-entry.result.slot
          (slot.with_elements c.args.elements.now));
    })) c.set_at.ensures)

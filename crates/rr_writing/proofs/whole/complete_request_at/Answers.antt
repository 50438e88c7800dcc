use Rattle.std.proofs.Common.{length, refl, ap, ◌∙◌}
use Rattle.rr_slots.specs.Pools as slot
use Rattle.rr_sender.specs.Senders.{with_changed_at}
use Rattle.rr_protocol.specs.Writing.{with_elements}
use Rattle.rr_store.specs.Sides.{with_sent}
use Rattle.rr_store.specs.Opened.{opened}
use Rattle.rr_writing.proofs.steps.Whole.{request_copied, request_told, request_sender, request_slot, whole_request_core, whole_request_view}
use Rattle.rr_writing.proofs.whole.complete_request_at.Goals as goal

pub at-entry-requires : goal.at-entry-requires
at-entry-requires g c = c.requires.at

pub set_at-requires : goal.set_at-requires
set_at-requires g c = c.requires.at

pub complete-requires-clause-sender : goal.complete-requires-clause-sender
complete-requires-clause-sender g c =
    (request_sender (opened c.args.store.now) c.requires.core c.args.number c.args.place _ c.at-entry.ensures c.requires.kind)

pub complete-requires-clause-slot : goal.complete-requires-clause-slot
complete-requires-clause-slot g c =
    (request_slot (opened c.args.store.now) c.requires.core c.args.number c.args.place _ c.at-entry.ensures c.requires.kind)

pub returns-clause-core : goal.returns-clause-core
returns-clause-core g c =
    let asked = request_told (opened c.args.store.now) c.requires.core c.args.number c.args.place _ c.at-entry.ensures c.requires.kind
    (length c.complete.ensures.0) c.complete.ensures.1 in
    whole_request_core (opened c.args.store.now) c.requires.core c.args.number c.args.place _ c.at-entry.ensures c.requires.kind
    (slot.with_elements c.complete.ensures.0) (with_elements c.complete.ensures.0) (λ header w. refl)
    (request_copied (opened c.args.store.now) c.requires.core c.args.number c.args.place _ c.at-entry.ensures c.requires.kind
    c.complete.ensures.0 asked) _ _ refl
    (ap (λ s. opened (record c.args.store.now { table = c.set_at.new.self; clients = s })) c.complete.ensures.2
    ∙ ap (λ t. opened (record c.args.store.now {
      table = t;
      clients = with_sent c.args.store.now.clients c.at-entry.result.sender (λ m. with_changed_at m c.at-entry.result.slot
          (slot.with_elements c.complete.ensures.0));
    })) c.set_at.ensures)

pub returns-clause-view : goal.returns-clause-view
returns-clause-view g c =
    let asked = request_told (opened c.args.store.now) c.requires.core c.args.number c.args.place _ c.at-entry.ensures c.requires.kind
    (length c.complete.ensures.0) c.complete.ensures.1 in (
      c.complete.ensures.0,
      asked,
      whole_request_view (opened c.args.store.now) c.requires.core c.args.number c.args.place _ c.at-entry.ensures c.requires.kind
          (slot.with_elements c.complete.ensures.0) (with_elements c.complete.ensures.0) (λ header w. refl)
          (request_copied (opened c.args.store.now) c.requires.core c.args.number c.args.place _ c.at-entry.ensures c.requires.kind
          c.complete.ensures.0 asked) _ _ refl
          (ap (λ s. opened (record c.args.store.now { table = c.set_at.new.self; clients = s })) c.complete.ensures.2
          ∙ ap (λ t. opened (record c.args.store.now {
            table = t;
            clients = with_sent c.args.store.now.clients c.at-entry.result.sender (λ m. with_changed_at m c.at-entry.result.slot
                (slot.with_elements c.complete.ensures.0));
          })) c.set_at.ensures),
    )

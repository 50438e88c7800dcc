use Rattle.std.proofs.Common.{◌==◌, ◌∷◌, [], refl, ap, ◌∙◌}
use Rattle.rr_slots.specs.Pools as slot
use Rattle.rr_sender.specs.Senders.{with_changed_at}
use Rattle.rr_protocol.specs.Writing.{with_elements}
use Rattle.rr_store.specs.Sides.{with_sent}
use Rattle.rr_store.specs.Opened.{opened}
use Rattle.rr_writing.proofs.steps.Whole.{asks_one, asks_some, request_sender, request_slot, whole_request_core, whole_request_view}
use Rattle.rr_writing.proofs.whole.write_request_at.Goals as goal

pub at-entry-requires : goal.at-entry-requires
at-entry-requires g c = c.requires.at

pub set_at-requires : goal.set_at-requires
set_at-requires g c = c.requires.at

pub write-requires-clause-sender : goal.write-requires-clause-sender
write-requires-clause-sender g c =
    (request_sender (opened c.args.store.now) c.requires.core c.args.number c.args.place _ c.at-entry.ensures c.requires.kind)

pub write-requires-clause-slot : goal.write-requires-clause-slot
write-requires-clause-slot g c =
    (request_slot (opened c.args.store.now) c.requires.core c.args.number c.args.place _ c.at-entry.ensures c.requires.kind)

pub write-requires-clause-asked : goal.write-requires-clause-asked
write-requires-clause-asked g c =
    asks_some g.QB.Body.asked_len g.QB.Body.elements c.requires.one c.body-asked.result.now _ c.body-asked.ensures

pub body-asked-requires-clause-sender : goal.body-asked-requires-clause-sender
body-asked-requires-clause-sender g c =
    request_sender (opened c.args.store.now) c.requires.core c.args.number c.args.place _ c.at-entry.ensures c.requires.kind

pub body-asked-requires-clause-slot : goal.body-asked-requires-clause-slot
body-asked-requires-clause-slot g c =
    request_slot (opened c.args.store.now) c.requires.core c.args.number c.args.place _ c.at-entry.ensures c.requires.kind

pub returns-clause-core : goal.returns-clause-core
returns-clause-core g c =
    whole_request_core (opened c.args.store.now) c.requires.core c.args.number c.args.place _ c.at-entry.ensures c.requires.kind
    (slot.with_elements (c.args.element ∷ [])) (with_elements (c.args.element ∷ [])) (λ header w. refl)
    (ap (λ k. 1 == k) (asks_one g.QB.Body.asked_len g.QB.Body.elements c.requires.one c.body-asked.result.now _ c.body-asked.ensures))
    _ _ refl
    (ap (λ s. opened (record c.args.store.now { table = c.set_at.new.self; clients = s })) c.write.ensures
    ∙ ap (λ t. opened (record c.args.store.now {
      table = t;
      clients = with_sent c.args.store.now.clients c.at-entry.result.sender (λ m. with_changed_at m c.at-entry.result.slot
          (slot.with_elements (c.args.element ∷ [])));
    })) c.set_at.ensures)

pub returns-clause-view : goal.returns-clause-view
returns-clause-view g c =
    whole_request_view (opened c.args.store.now) c.requires.core c.args.number c.args.place _ c.at-entry.ensures c.requires.kind
    (slot.with_elements (c.args.element ∷ [])) (with_elements (c.args.element ∷ [])) (λ header w. refl)
    (ap (λ k. 1 == k) (asks_one g.QB.Body.asked_len g.QB.Body.elements c.requires.one c.body-asked.result.now _ c.body-asked.ensures))
    _ _ refl
    (ap (λ s. opened (record c.args.store.now { table = c.set_at.new.self; clients = s })) c.write.ensures
    ∙ ap (λ t. opened (record c.args.store.now {
      table = t;
      clients = with_sent c.args.store.now.clients c.at-entry.result.sender (λ m. with_changed_at m c.at-entry.result.slot
          (slot.with_elements (c.args.element ∷ [])));
    })) c.set_at.ensures)

use Rattle.std.proofs.Common.{refl, ap, ◌∙◌}
use Rattle.rr_slots.specs.Pools as slot
use Rattle.rr_sender.specs.Senders.{with_changed_at}
use Rattle.rr_protocol.specs.Writing.{filled}
use Rattle.rr_store.specs.Sides.{with_sent}
use Rattle.rr_store.specs.Opened.{opened}
use Rattle.rr_writing.proofs.steps.Whole.{response_filled, response_sender, response_slot, whole_response_core, whole_response_view}
use Rattle.rr_writing.proofs.whole.fill_response_at.Goals as goal

pub at-entry-requires : goal.at-entry-requires
at-entry-requires g c = c.requires.at

pub set_at-requires : goal.set_at-requires
set_at-requires g c = c.requires.at

pub fill-requires-clause-sender : goal.fill-requires-clause-sender
fill-requires-clause-sender g c =
    (response_sender (opened c.args.store.now) c.requires.core c.args.number c.args.place _ c.at-entry.ensures c.requires.kind)

pub fill-requires-clause-slot : goal.fill-requires-clause-slot
fill-requires-clause-slot g c =
    (response_slot (opened c.args.store.now) c.requires.core c.args.number c.args.place _ c.at-entry.ensures c.requires.kind)

pub returns-clause-core : goal.returns-clause-core
returns-clause-core g c =
    whole_response_core (opened c.args.store.now) c.requires.core c.args.number c.args.place _ c.at-entry.ensures c.requires.kind
    (slot.filled c.args.element) (filled c.args.element) (λ header w. refl)
    (response_filled (opened c.args.store.now) c.requires.core c.args.number c.args.place _ c.at-entry.ensures c.requires.kind
    c.args.element) _ _ refl
    (ap (λ s. opened (record c.args.store.now { table = c.set_at.new.self; servers = s })) c.fill.ensures
    ∙ ap (λ t. opened (record c.args.store.now {
      table = t;
      servers = with_sent c.args.store.now.servers c.at-entry.result.sender (λ m. with_changed_at m c.at-entry.result.slot
          (slot.filled c.args.element));
    })) c.set_at.ensures)

pub returns-clause-view : goal.returns-clause-view
returns-clause-view g c =
    whole_response_view (opened c.args.store.now) c.requires.core c.args.number c.args.place _ c.at-entry.ensures c.requires.kind
    (slot.filled c.args.element) (filled c.args.element) (λ header w. refl)
    (response_filled (opened c.args.store.now) c.requires.core c.args.number c.args.place _ c.at-entry.ensures c.requires.kind
    c.args.element) _ _ refl
    (ap (λ s. opened (record c.args.store.now { table = c.set_at.new.self; servers = s })) c.fill.ensures
    ∙ ap (λ t. opened (record c.args.store.now {
      table = t;
      servers = with_sent c.args.store.now.servers c.at-entry.result.sender (λ m. with_changed_at m c.at-entry.result.slot
          (slot.filled c.args.element));
    })) c.set_at.ensures)

use Rattle.std.proofs.Common.{ap}
use Rattle.rr_slots.specs.Elements.{option_elements}
use Rattle.rr_slots.specs.Pools.{written}
use Rattle.rr_store.specs.Opened.{opened}
use Rattle.rr_store.specs.Views.{no_response}
use Rattle.rr_releasing.proofs.steps.Received.{sender_asked, slot_asked, asked_then, client_asked, queue_asked, counted_asked, gone_then, port_then, sound_then, taken_then}
use Rattle.rr_releasing.proofs.received.end_taken.Goals as goal

pub take_at-entry-requires : goal.take_at-entry-requires
take_at-entry-requires g c = c.requires.at

pub details-details-requires-clause-sender : goal.details-details-requires-clause-sender
details-details-requires-clause-sender g c =
    sender_asked (opened c.args.store.now) c.requires.core c.args.number c.args.place _ c.take_at-entry.ensures.taken c.requires.kind _
    (ap (λ s. opened (record c.args.store.now { table = s })) c.take_at-entry.ensures.gone)

pub details-details-requires-clause-slot : goal.details-details-requires-clause-slot
details-details-requires-clause-slot g c =
    slot_asked (opened c.args.store.now) c.requires.core c.args.number c.args.place _ c.take_at-entry.ensures.taken c.requires.kind _
    (ap (λ s. opened (record c.args.store.now { table = s })) c.take_at-entry.ensures.gone)

pub receiver_of-receiver-requires : goal.receiver_of-receiver-requires
receiver_of-receiver-requires g c =
    client_asked (opened c.args.store.now) c.requires.core c.args.number c.args.place _ c.take_at-entry.ensures.taken c.requires.kind _
    (ap (λ s. opened (record c.args.store.now { table = s })) c.take_at-entry.ensures.gone) _ (c.details-details.ensures no_response)

pub end_borrow_taking-element-requires-clause-sender : goal.end_borrow_taking-element-requires-clause-sender
end_borrow_taking-element-requires-clause-sender g c =
    sender_asked (opened c.args.store.now) c.requires.core c.args.number c.args.place _ c.take_at-entry.ensures.taken c.requires.kind _
    (ap (λ s. opened (record c.args.store.now { table = s })) c.take_at-entry.ensures.gone)

pub end_borrow_taking-element-requires-clause-queue : goal.end_borrow_taking-element-requires-clause-queue
end_borrow_taking-element-requires-clause-queue g c =
    queue_asked (opened c.args.store.now) c.requires.core c.args.number c.args.place _ c.take_at-entry.ensures.taken c.requires.kind _
    (ap (λ s. opened (record c.args.store.now { table = s })) c.take_at-entry.ensures.gone) _ (c.details-details.ensures no_response) _
    c.receiver_of-receiver.ensures

pub end_borrow_taking-element-requires-clause-counted : goal.end_borrow_taking-element-requires-clause-counted
end_borrow_taking-element-requires-clause-counted g c =
    counted_asked (opened c.args.store.now) c.requires.core c.args.number c.args.place _ c.take_at-entry.ensures.taken c.requires.kind _
    (ap (λ s. opened (record c.args.store.now { table = s })) c.take_at-entry.ensures.gone) _ (c.details-details.ensures no_response) _
    c.receiver_of-receiver.ensures

pub returns-clause-sound : goal.returns-clause-sound
returns-clause-sound g c =
    sound_then (opened c.args.store.now) c.requires.core c.args.number c.args.place _ c.take_at-entry.ensures.taken c.requires.kind _
    (ap (λ s. opened (record c.args.store.now { table = s })) c.take_at-entry.ensures.gone) _ (c.details-details.ensures no_response) _
    c.receiver_of-receiver.ensures _ (ap (λ s. opened (record c.args.store.now { table = c.take_at-entry.new.self; servers = s }))
    c.end_borrow_taking-element.ensures.given)

pub returns-clause-port : goal.returns-clause-port
returns-clause-port g c =
    port_then (opened c.args.store.now) c.requires.core c.args.number c.args.place _ c.take_at-entry.ensures.taken c.requires.kind _
    (ap (λ s. opened (record c.args.store.now { table = s })) c.take_at-entry.ensures.gone) _ (c.details-details.ensures no_response) _
    c.receiver_of-receiver.ensures _ (ap (λ s. opened (record c.args.store.now { table = c.take_at-entry.new.self; servers = s }))
    c.end_borrow_taking-element.ensures.given)

pub returns-clause-gone : goal.returns-clause-gone
returns-clause-gone g c =
    gone_then (opened c.args.store.now) c.requires.core c.args.number c.args.place _ c.take_at-entry.ensures.taken c.requires.kind _
    (ap (λ s. opened (record c.args.store.now { table = s })) c.take_at-entry.ensures.gone) _ (c.details-details.ensures no_response) _
    c.receiver_of-receiver.ensures _ (ap (λ s. opened (record c.args.store.now { table = c.take_at-entry.new.self; servers = s }))
    c.end_borrow_taking-element.ensures.given)

pub returns-clause-elements : goal.returns-clause-elements
returns-clause-elements g c =
    taken_then (opened c.args.store.now) c.requires.core c.args.number c.args.place _ c.take_at-entry.ensures.taken c.requires.kind _
    (ap (λ s. opened (record c.args.store.now { table = s })) c.take_at-entry.ensures.gone) _ c.end_borrow_taking-element.ensures.taken

pub returns-clause-asked : goal.returns-clause-asked
returns-clause-asked g c =
    asked_then (opened c.args.store.now) c.requires.core c.args.number c.args.place _ c.take_at-entry.ensures.taken c.requires.kind _
    (ap (λ s. opened (record c.args.store.now { table = s })) c.take_at-entry.ensures.gone)
    (written (λ _. 1) option_elements c.body-body.result.now) c.body-body.ensures

pub body-body-requires-clause-sender : goal.body-body-requires-clause-sender
body-body-requires-clause-sender g c =
    sender_asked (opened c.args.store.now) c.requires.core c.args.number c.args.place _ c.take_at-entry.ensures.taken c.requires.kind _
    (ap (λ s. opened (record c.args.store.now { table = s })) c.take_at-entry.ensures.gone)

pub body-body-requires-clause-slot : goal.body-body-requires-clause-slot
body-body-requires-clause-slot g c =
    slot_asked (opened c.args.store.now) c.requires.core c.args.number c.args.place _ c.take_at-entry.ensures.taken c.requires.kind _
    (ap (λ s. opened (record c.args.store.now { table = s })) c.take_at-entry.ensures.gone)

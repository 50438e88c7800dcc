use Rattle.std.proofs.Common.{◌<◌, ◌+◌, ◌^◌, Ok, ap, ◌∙◌}
use Rattle.rr_laws.proofs.Naming.{received_names_nothing}
use Rattle.rr_store.specs.Asked.{CanInsert}
use Rattle.rr_store.specs.Opened.{opened}
use Rattle.rr_store.specs.Draining.{HaveQueues}
use Rattle.rr_store.specs.Receiving.{HaveChannels}
use Rattle.rr_store.proofs.base.senders.Connected.{reached_apart}
use Rattle.rr_store.specs.Views.{no_response}
use Rattle.rr_receiving.proofs.steps.Response.{own_asked, queues_asked, none_then, error_then, taken_sender_asked, slot_asked}
use Rattle.rr_receiving.proofs.steps.Response.{insert_asked, core_then, receives_then, unhandled}
use Rattle.rr_receiving.proofs.response.receive_response_at.Goals.{After-receiver_of-receiver, After-own_place-own}
use Rattle.rr_receiving.proofs.response.receive_response_at.Goals as goal

pub at-request-requires : goal.at-request-requires
at-request-requires g c = c.requires.at

pub receiver_of-receiver-requires : goal.receiver_of-receiver-requires
receiver_of-receiver-requires g c =
    own_asked (opened c.args.store.now) c.requires.core c.args.number c.args.place _ c.at-request.ensures c.requires.kind

-- each server's sender reaches the client
reach : (g : _) (c : After-receiver_of-receiver g) → HaveQueues c.args.store.now.servers.senders c.receiver_of-receiver.result
    × HaveChannels c.args.store.now.servers.senders c.receiver_of-receiver.result c.at-request.result.slot
reach g c =
    reached_apart _ _ _
    (queues_asked (opened c.args.store.now) c.requires.core c.args.number c.args.place _ c.at-request.ensures c.requires.kind _
    c.receiver_of-receiver.ensures)

pub next_response_sender-requires-clause-receiver : goal.next_response_sender-requires-clause-receiver
next_response_sender-requires-clause-receiver g c = (reach g (goal.at.next_response_sender-requires-clause-receiver g c).After-receiver_of-receiver).0

pub next_response_sender-requires-clause-channel : goal.next_response_sender-requires-clause-channel
next_response_sender-requires-clause-channel g c = (reach g (goal.at.next_response_sender-requires-clause-channel g c).After-receiver_of-receiver).1

pub details-details-requires-clause-sender : goal.details-details-requires-clause-sender
details-details-requires-clause-sender g c =
    taken_sender_asked (opened c.args.store.now) c.requires.core c.args.number c.args.place _ c.at-request.ensures c.requires.kind _
    c.receiver_of-receiver.ensures _ c.next_response_sender.ensures _ (c.in-Ok-Some.is ∙ ap Ok c.in-Ok-Some.field-0-is) _ _
    c.take-slot.ensures.first c.take-slot.ensures.within (ap (λ s. opened (record c.args.store.now { servers = s }))
    c.take-slot.ensures.taken)

pub details-details-requires-clause-slot : goal.details-details-requires-clause-slot
details-details-requires-clause-slot g c =
    slot_asked (opened c.args.store.now) c.requires.core c.args.number c.args.place _ c.at-request.ensures c.requires.kind _
    c.receiver_of-receiver.ensures _ c.next_response_sender.ensures _ (c.in-Ok-Some.is ∙ ap Ok c.in-Ok-Some.field-0-is) _ _
    c.take-slot.ensures.first c.take-slot.ensures.within (ap (λ s. opened (record c.args.store.now { servers = s }))
    c.take-slot.ensures.taken)

-- the handle can be put there
insertable : (g : _) (c : After-own_place-own g)
    → CanInsert c.args.store.now.table c.details-details.result.number c.own_place-own.result × (c.details-details.result.number + 1 < 2 ^ 64)
insertable g c =
    insert_asked (opened c.args.store.now) c.requires.core c.args.number c.args.place _ c.at-request.ensures c.requires.kind _
    c.receiver_of-receiver.ensures _ c.next_response_sender.ensures _ (c.in-Ok-Some.is ∙ ap Ok c.in-Ok-Some.field-0-is) _ _
    c.take-slot.ensures.first c.take-slot.ensures.within (ap (λ s. opened (record c.args.store.now { servers = s }))
    c.take-slot.ensures.taken) _ _
    (c.details-details.ensures no_response) c.own_place-own.ensures

pub insert-requires-clause-vacant : goal.insert-requires-clause-vacant
insert-requires-clause-vacant g c = (insertable g (goal.at.insert-requires-clause-vacant g c).After-own_place-own).0

pub insert-requires-clause-number : goal.insert-requires-clause-number
insert-requires-clause-number g c = (insertable g (goal.at.insert-requires-clause-number g c).After-own_place-own).1

pub returns-in-Ok-Some-clause-core : goal.returns-in-Ok-Some-clause-core
returns-in-Ok-Some-clause-core g c =
    core_then (opened c.args.store.now) c.requires.core c.args.number c.args.place _ c.at-request.ensures c.requires.kind _
    c.receiver_of-receiver.ensures _ c.next_response_sender.ensures _ (c.in-Ok-Some.is ∙ ap Ok c.in-Ok-Some.field-0-is) _ _
    c.take-slot.ensures.first c.take-slot.ensures.within (ap (λ s. opened (record c.args.store.now { servers = s }))
    c.take-slot.ensures.taken) _ _
    (c.details-details.ensures no_response) c.own_place-own.ensures _ c.insert.ensures _ c.new.ensures

pub returns-in-Ok-Some-clause-receives : goal.returns-in-Ok-Some-clause-receives
returns-in-Ok-Some-clause-receives g c =
    receives_then (opened c.args.store.now) c.requires.core c.args.number c.args.place _ c.at-request.ensures c.requires.kind _
    c.receiver_of-receiver.ensures _ c.next_response_sender.ensures _ (c.in-Ok-Some.is ∙ ap Ok c.in-Ok-Some.field-0-is) _ _
    c.take-slot.ensures.first c.take-slot.ensures.within (ap (λ s. opened (record c.args.store.now { servers = s }))
    c.take-slot.ensures.taken) _ _
    (c.details-details.ensures no_response) c.own_place-own.ensures _ c.insert.ensures _ c.new.ensures

pub returns-in-Ok-Some-clause-unnamed : goal.returns-in-Ok-Some-clause-unnamed
returns-in-Ok-Some-clause-unnamed g c =
    received_names_nothing _ c.requires.core.reached c.args.number _ _ (returns-in-Ok-Some-clause-receives g c)
    (unhandled (opened c.args.store.now) c.requires.core c.args.number c.args.place _ c.at-request.ensures c.requires.kind _
    c.receiver_of-receiver.ensures _ c.next_response_sender.ensures _ (c.in-Ok-Some.is ∙ ap Ok c.in-Ok-Some.field-0-is) _ _
    c.take-slot.ensures.first c.take-slot.ensures.within (ap (λ s. opened (record c.args.store.now { servers = s }))
    c.take-slot.ensures.taken) _ _
    (c.details-details.ensures no_response) c.own_place-own.ensures _ c.new.ensures)

pub returns-in-Ok-None-clause-core : goal.returns-in-Ok-None-clause-core
returns-in-Ok-None-clause-core g c = c.requires.core

pub returns-in-Ok-None-clause-receives : goal.returns-in-Ok-None-clause-receives
returns-in-Ok-None-clause-receives g c =
    none_then (opened c.args.store.now) c.requires.core c.args.number c.args.place _ c.at-request.ensures c.requires.kind _
    c.receiver_of-receiver.ensures _ c.next_response_sender.ensures (c.in-Ok-None.is ∙ ap Ok c.in-Ok-None.field-0-is)

pub returns-in-Err-clause-core : goal.returns-in-Err-clause-core
returns-in-Err-clause-core g c = c.requires.core

pub returns-in-Err-clause-receives : goal.returns-in-Err-clause-receives
returns-in-Err-clause-receives g c =
    error_then (opened c.args.store.now) c.requires.core c.args.number c.args.place _ c.at-request.ensures c.requires.kind _
    c.receiver_of-receiver.ensures _ c.next_response_sender.ensures c.in-Err.error c.in-Err.is

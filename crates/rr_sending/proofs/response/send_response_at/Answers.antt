use Rattle.std.proofs.Common.{refl, ap, ◌∙◌}
use Rattle.std.specs.Prelude.{◌==◌}
use Rattle.rr_store.specs.Changes.{without_handle}
use Rattle.rr_store.specs.Opened.{opened}
use Rattle.rr_store.specs.Parts.{ServerPart}
use Rattle.rr_store.specs.Ports.{server_part}
use Rattle.rr_store.specs.Views.{no_response, sender_of}
use Rattle.rr_store.proofs.base.lists.Seen.{kept_rising, kept_some}
use Rattle.rr_sending.proofs.steps.Response.{sender_asked, slot_asked, loan_asked, rising_asked, found_asked, queue_asked, refused, sender_still, queue_still, takes_still, loan_sender, loan_counted, sends, core_then, port_then, sound_then}
use Rattle.rr_sending.proofs.response.send_response_at.Goals as goal

pub details-details-requires-clause-sender : goal.details-details-requires-clause-sender
details-details-requires-clause-sender g c =
    sender_asked (opened c.args.store.now) c.requires.core c.args.number c.args.place c.at-entry.result c.at-entry.ensures c.requires.kind
    g.K.BackpressureFn.action

pub details-details-requires-clause-slot : goal.details-details-requires-clause-slot
details-details-requires-clause-slot g c =
    slot_asked (opened c.args.store.now) c.requires.core c.args.number c.args.place c.at-entry.result c.at-entry.ensures c.requires.kind
    g.K.BackpressureFn.action

pub is_response_refused-requires-clause-sender : goal.is_response_refused-requires-clause-sender
is_response_refused-requires-clause-sender g c =
    sender_asked (opened c.args.store.now) c.requires.core c.args.number c.args.place c.at-entry.result c.at-entry.ensures c.requires.kind
    g.K.BackpressureFn.action

pub is_response_refused-requires-clause-rising : goal.is_response_refused-requires-clause-rising
is_response_refused-requires-clause-rising g c =
    kept_rising server_part c.args.store.now.servers.ports (λ (s : ServerPart _). s.port.id)
    (rising_asked (opened c.args.store.now) c.requires.core c.args.number c.args.place c.at-entry.result c.at-entry.ensures
    c.requires.kind g.K.BackpressureFn.action)

pub is_response_refused-requires-clause-present : goal.is_response_refused-requires-clause-present
is_response_refused-requires-clause-present g c =
    kept_some server_part c.args.store.now.servers.ports
    (λ (s : ServerPart _). s.port.id == (sender_of c.at-entry.result.sender c.args.store.now.servers.senders).owner)
    (found_asked (opened c.args.store.now) c.requires.core c.args.number c.args.place c.at-entry.result c.at-entry.ensures
    c.requires.kind g.K.BackpressureFn.action)

pub is_response_refused-requires-clause-queue : goal.is_response_refused-requires-clause-queue
is_response_refused-requires-clause-queue g c =
    queue_asked (opened c.args.store.now) c.requires.core c.args.number c.args.place c.at-entry.result c.at-entry.ensures c.requires.kind
    g.K.BackpressureFn.action _ (c.details-details.ensures no_response) _ c.reached_receiver-reach.ensures

pub release_response_loan_at-requires-clause-at : goal.release_response_loan_at-requires-clause-at
release_response_loan_at-requires-clause-at g c =
    (c.at-entry.result, c.at-entry.ensures)

pub release_response_loan_at-requires-clause-kind : goal.release_response_loan_at-requires-clause-kind
release_response_loan_at-requires-clause-kind g c =
    loan_asked (opened c.args.store.now) c.requires.core c.args.number c.args.place c.at-entry.result c.at-entry.ensures c.requires.kind
    g.K.BackpressureFn.action

pub returns-then-is_response_refused-clause-core : goal.returns-then-is_response_refused-clause-core
returns-then-is_response_refused-clause-core g c =
    c.release_response_loan_at.ensures.core

pub returns-then-is_response_refused-clause-sends : goal.returns-then-is_response_refused-clause-sends
returns-then-is_response_refused-clause-sends g c =
    refused (opened c.args.store.now) c.requires.core c.args.number c.args.place c.at-entry.result c.at-entry.ensures c.requires.kind
    g.K.BackpressureFn.action _ (c.details-details.ensures no_response) _ c.reached_receiver-reach.ensures
    c.args.store.now.servers.ports refl _ c.is_response_refused.ensures.refused
    c.if-is_response_refused.true (opened c.release_response_loan_at.new.store) c.release_response_loan_at.ensures.view

pub hand_over-requires-clause-sender : goal.hand_over-requires-clause-sender
hand_over-requires-clause-sender g c =
    sender_still (opened c.args.store.now) c.requires.core c.args.number c.args.place c.at-entry.result c.at-entry.ensures c.requires.kind
    g.K.BackpressureFn.action _ (c.details-details.ensures no_response) _ c.reached_receiver-reach.ensures _ refl

pub hand_over-requires-clause-queue : goal.hand_over-requires-clause-queue
hand_over-requires-clause-queue g c =
    queue_still (opened c.args.store.now) c.requires.core c.args.number c.args.place c.at-entry.result c.at-entry.ensures c.requires.kind
    g.K.BackpressureFn.action _ (c.details-details.ensures no_response) _ c.reached_receiver-reach.ensures _ refl

pub hand_over-requires-clause-takes : goal.hand_over-requires-clause-takes
hand_over-requires-clause-takes g c =
    takes_still (opened c.args.store.now) c.requires.core c.args.number c.args.place c.at-entry.result c.at-entry.ensures c.requires.kind
    g.K.BackpressureFn.action _ (c.details-details.ensures no_response) _ c.reached_receiver-reach.ensures _ refl

pub take_at-requires : goal.take_at-requires
take_at-requires g c =
    (c.at-entry.result, c.at-entry.ensures)

pub end_loan-receiver-requires-clause-sender : goal.end_loan-receiver-requires-clause-sender
end_loan-receiver-requires-clause-sender g c =
    loan_sender (opened c.args.store.now) c.requires.core c.args.number c.args.place c.at-entry.result c.at-entry.ensures c.requires.kind
    g.K.BackpressureFn.action _ (c.details-details.ensures no_response) _ c.reached_receiver-reach.ensures _ refl _
    ((ap (λ s. opened (record c.args.store.now { servers = c.hand_over.new.self; table = s })) c.take_at.ensures.gone) ∙ ap (λ h.
    without_handle h c.args.number) (ap (λ s. opened (record c.args.store.now { servers = s })) c.hand_over.ensures))

pub end_loan-receiver-requires-clause-counted : goal.end_loan-receiver-requires-clause-counted
end_loan-receiver-requires-clause-counted g c =
    loan_counted (opened c.args.store.now) c.requires.core c.args.number c.args.place c.at-entry.result c.at-entry.ensures c.requires.kind
    g.K.BackpressureFn.action _ (c.details-details.ensures no_response) _ c.reached_receiver-reach.ensures _ refl _
    ((ap (λ s. opened (record c.args.store.now { servers = c.hand_over.new.self; table = s })) c.take_at.ensures.gone) ∙ ap (λ h.
    without_handle h c.args.number) (ap (λ s. opened (record c.args.store.now { servers = s })) c.hand_over.ensures))

pub leave_server_of_sender_if_unused-requires-clause-sound : goal.leave_server_of_sender_if_unused-requires-clause-sound
leave_server_of_sender_if_unused-requires-clause-sound g c =
    sound_then (opened c.args.store.now) c.requires.core c.args.number c.args.place c.at-entry.result c.at-entry.ensures c.requires.kind
    g.K.BackpressureFn.action _ (c.details-details.ensures no_response) _ c.reached_receiver-reach.ensures _ refl _
    ((ap (λ s. opened (record c.args.store.now { servers = c.hand_over.new.self; table = s })) c.take_at.ensures.gone) ∙ ap (λ h.
    without_handle h c.args.number) (ap (λ s. opened (record c.args.store.now { servers = s })) c.hand_over.ensures)) _ _
    c.end_loan-receiver.ensures.receiver
    (ap (λ s. opened (record c.args.store.now { table = c.take_at.new.self; servers = s })) c.end_loan-receiver.ensures.counted) _
    c.end_loan_from.ensures.rest c.end_loan_from.ensures.ended

pub leave_server_of_sender_if_unused-requires-clause-port : goal.leave_server_of_sender_if_unused-requires-clause-port
leave_server_of_sender_if_unused-requires-clause-port g c =
    port_then (opened c.args.store.now) c.requires.core c.args.number c.args.place c.at-entry.result c.at-entry.ensures c.requires.kind
    g.K.BackpressureFn.action _ (c.details-details.ensures no_response) _ c.reached_receiver-reach.ensures _ refl _
    ((ap (λ s. opened (record c.args.store.now { servers = c.hand_over.new.self; table = s })) c.take_at.ensures.gone) ∙ ap (λ h.
    without_handle h c.args.number) (ap (λ s. opened (record c.args.store.now { servers = s })) c.hand_over.ensures)) _ _
    c.end_loan-receiver.ensures.receiver
    (ap (λ s. opened (record c.args.store.now { table = c.take_at.new.self; servers = s })) c.end_loan-receiver.ensures.counted) _
    c.end_loan_from.ensures.rest c.end_loan_from.ensures.ended

pub returns-clause-core : goal.returns-clause-core
returns-clause-core g c =
    core_then (opened c.args.store.now) c.requires.core c.args.number c.args.place c.at-entry.result c.at-entry.ensures c.requires.kind
    g.K.BackpressureFn.action _ (c.details-details.ensures no_response) _ c.reached_receiver-reach.ensures _ refl _
    ((ap (λ s. opened (record c.args.store.now { servers = c.hand_over.new.self; table = s })) c.take_at.ensures.gone) ∙ ap (λ h.
    without_handle h c.args.number) (ap (λ s. opened (record c.args.store.now { servers = s })) c.hand_over.ensures)) _ _
    c.end_loan-receiver.ensures.receiver
    (ap (λ s. opened (record c.args.store.now { table = c.take_at.new.self; servers = s })) c.end_loan-receiver.ensures.counted) (opened
    c.end_loan_from.new.self) c.end_loan_from.ensures.rest c.end_loan_from.ensures.ended
    c.args.store.now.servers.ports refl _ c.is_response_refused.ensures.refused
    (opened c.leave_server_of_sender_if_unused.new.store) c.leave_server_of_sender_if_unused.ensures.view
    c.leave_server_of_sender_if_unused.ensures.sound c.if-is_response_refused.false

pub returns-clause-sends : goal.returns-clause-sends
returns-clause-sends g c =
    sends (opened c.args.store.now) c.requires.core c.args.number c.args.place c.at-entry.result c.at-entry.ensures c.requires.kind
    g.K.BackpressureFn.action _ (c.details-details.ensures no_response) _ c.reached_receiver-reach.ensures _ refl _
    ((ap (λ s. opened (record c.args.store.now { servers = c.hand_over.new.self; table = s })) c.take_at.ensures.gone) ∙ ap (λ h.
    without_handle h c.args.number) (ap (λ s. opened (record c.args.store.now { servers = s })) c.hand_over.ensures)) _ _
    c.end_loan-receiver.ensures.receiver
    (ap (λ s. opened (record c.args.store.now { table = c.take_at.new.self; servers = s })) c.end_loan-receiver.ensures.counted) (opened
    c.end_loan_from.new.self) c.end_loan_from.ensures.rest c.end_loan_from.ensures.ended
    c.args.store.now.servers.ports refl _ c.is_response_refused.ensures.refused
    (opened c.leave_server_of_sender_if_unused.new.store) c.leave_server_of_sender_if_unused.ensures.view c.if-is_response_refused.false

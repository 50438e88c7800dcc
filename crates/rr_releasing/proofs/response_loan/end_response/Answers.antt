use Rattle.std.proofs.Common.{ap}
use Rattle.rr_store.specs.Opened.{opened}
use Rattle.rr_store.specs.Views.{no_response}
use Rattle.rr_releasing.proofs.steps.ResponseLoan.{sender_asked, slot_asked, held_asked, sender_still, loan_asked, gone_then, port_then, sound_then}
use Rattle.rr_releasing.proofs.response_loan.end_response.Goals as goal

pub take_at-entry-requires : goal.take_at-entry-requires
take_at-entry-requires g c = c.requires.at

pub details-details-requires-clause-sender : goal.details-details-requires-clause-sender
details-details-requires-clause-sender g c =
    sender_asked (opened c.args.store.now) c.requires.core c.args.number c.args.place _ c.take_at-entry.ensures.taken c.requires.kind _
    (ap (λ s. opened (record c.args.store.now { table = s })) c.take_at-entry.ensures.gone)

pub details-details-requires-clause-slot : goal.details-details-requires-clause-slot
details-details-requires-clause-slot g c =
    slot_asked (opened c.args.store.now) c.requires.core c.args.number c.args.place _ c.take_at-entry.ensures.taken c.requires.kind _
    (ap (λ s. opened (record c.args.store.now { table = s })) c.take_at-entry.ensures.gone)

pub give_back-requires-clause-sender : goal.give_back-requires-clause-sender
give_back-requires-clause-sender g c =
    sender_asked (opened c.args.store.now) c.requires.core c.args.number c.args.place _ c.take_at-entry.ensures.taken c.requires.kind _
    (ap (λ s. opened (record c.args.store.now { table = s })) c.take_at-entry.ensures.gone)

pub give_back-requires-clause-held : goal.give_back-requires-clause-held
give_back-requires-clause-held g c =
    held_asked (opened c.args.store.now) c.requires.core c.args.number c.args.place _ c.take_at-entry.ensures.taken c.requires.kind _
    (ap (λ s. opened (record c.args.store.now { table = s })) c.take_at-entry.ensures.gone)

pub end_loan-receiver-requires-clause-sender : goal.end_loan-receiver-requires-clause-sender
end_loan-receiver-requires-clause-sender g c =
    sender_still (opened c.args.store.now) c.requires.core c.args.number c.args.place _ c.take_at-entry.ensures.taken c.requires.kind _
    (ap (λ s. opened (record c.args.store.now { table = s })) c.take_at-entry.ensures.gone) _ (c.details-details.ensures no_response) _
    (ap (λ s. opened (record c.args.store.now { table = c.take_at-entry.new.self; servers = s })) c.give_back.ensures)

pub end_loan-receiver-requires-clause-counted : goal.end_loan-receiver-requires-clause-counted
end_loan-receiver-requires-clause-counted g c =
    loan_asked (opened c.args.store.now) c.requires.core c.args.number c.args.place _ c.take_at-entry.ensures.taken c.requires.kind _
    (ap (λ s. opened (record c.args.store.now { table = s })) c.take_at-entry.ensures.gone) _ (c.details-details.ensures no_response) _
    (ap (λ s. opened (record c.args.store.now { table = c.take_at-entry.new.self; servers = s })) c.give_back.ensures)

pub returns-clause-sound : goal.returns-clause-sound
returns-clause-sound g c =
    sound_then (opened c.args.store.now) c.requires.core c.args.number c.args.place _ c.take_at-entry.ensures.taken c.requires.kind _
    (ap (λ s. opened (record c.args.store.now { table = s })) c.take_at-entry.ensures.gone) _ (c.details-details.ensures no_response) _
    (ap (λ s. opened (record c.args.store.now { table = c.take_at-entry.new.self; servers = s })) c.give_back.ensures) _ _
    c.end_loan-receiver.ensures.receiver (ap (λ s. opened (record c.args.store.now { table = c.take_at-entry.new.self; servers = s }))
    c.end_loan-receiver.ensures.counted) _ c.end_loan_from.ensures.rest
    c.end_loan_from.ensures.ended

pub returns-clause-port : goal.returns-clause-port
returns-clause-port g c =
    port_then (opened c.args.store.now) c.requires.core c.args.number c.args.place _ c.take_at-entry.ensures.taken c.requires.kind _
    (ap (λ s. opened (record c.args.store.now { table = s })) c.take_at-entry.ensures.gone) _ (c.details-details.ensures no_response) _
    (ap (λ s. opened (record c.args.store.now { table = c.take_at-entry.new.self; servers = s })) c.give_back.ensures) _ _
    c.end_loan-receiver.ensures.receiver (ap (λ s. opened (record c.args.store.now { table = c.take_at-entry.new.self; servers = s }))
    c.end_loan-receiver.ensures.counted) _ c.end_loan_from.ensures.rest
    c.end_loan_from.ensures.ended

pub returns-clause-gone : goal.returns-clause-gone
returns-clause-gone g c =
    gone_then (opened c.args.store.now) c.requires.core c.args.number c.args.place _ c.take_at-entry.ensures.taken c.requires.kind _
    (ap (λ s. opened (record c.args.store.now { table = s })) c.take_at-entry.ensures.gone) _ (c.details-details.ensures no_response) _
    (ap (λ s. opened (record c.args.store.now { table = c.take_at-entry.new.self; servers = s })) c.give_back.ensures) _ _
    c.end_loan-receiver.ensures.receiver (ap (λ s. opened (record c.args.store.now { table = c.take_at-entry.new.self; servers = s }))
    c.end_loan-receiver.ensures.counted) _ c.end_loan_from.ensures.rest
    c.end_loan_from.ensures.ended

use Rattle.std.proofs.Common.{ap}
use Rattle.rr_store.specs.Opened.{opened}
use Rattle.rr_releasing.proofs.steps.Request.{sender_asked, slot_asked, sender_still, loan_asked, gone_then, port_then, sound_then}
use Rattle.rr_releasing.proofs.request.end_request.Goals as goal

pub take_at-entry-requires : goal.take_at-entry-requires
take_at-entry-requires g c = c.requires.at

pub give_back-requires-clause-sender : goal.give_back-requires-clause-sender
give_back-requires-clause-sender g c =
    sender_asked (opened c.args.store.now) c.requires.core c.args.number c.args.place _ c.take_at-entry.ensures.taken c.requires.kind _
    (ap (λ s. opened (record c.args.store.now { table = s })) c.take_at-entry.ensures.gone)

pub give_back-requires-clause-held : goal.give_back-requires-clause-held
give_back-requires-clause-held g c =
    slot_asked (opened c.args.store.now) c.requires.core c.args.number c.args.place _ c.take_at-entry.ensures.taken c.requires.kind _
    (ap (λ s. opened (record c.args.store.now { table = s })) c.take_at-entry.ensures.gone)

pub end_loan-requires-clause-sender : goal.end_loan-requires-clause-sender
end_loan-requires-clause-sender g c =
    sender_still (opened c.args.store.now) c.requires.core c.args.number c.args.place _ c.take_at-entry.ensures.taken c.requires.kind _
    (ap (λ s. opened (record c.args.store.now { table = s })) c.take_at-entry.ensures.gone) _ (ap (λ s. opened (record c.args.store.now
    { table = c.take_at-entry.new.self; clients = s })) c.give_back.ensures)

pub end_loan-requires-clause-counted : goal.end_loan-requires-clause-counted
end_loan-requires-clause-counted g c =
    loan_asked (opened c.args.store.now) c.requires.core c.args.number c.args.place _ c.take_at-entry.ensures.taken c.requires.kind _
    (ap (λ s. opened (record c.args.store.now { table = s })) c.take_at-entry.ensures.gone) _ (ap (λ s. opened (record c.args.store.now
    { table = c.take_at-entry.new.self; clients = s })) c.give_back.ensures)

pub returns-clause-sound : goal.returns-clause-sound
returns-clause-sound g c =
    sound_then (opened c.args.store.now) c.requires.core c.args.number c.args.place _ c.take_at-entry.ensures.taken c.requires.kind _
    (ap (λ s. opened (record c.args.store.now { table = s })) c.take_at-entry.ensures.gone) _ (ap (λ s. opened (record c.args.store.now
    { table = c.take_at-entry.new.self; clients = s })) c.give_back.ensures) _ (ap (λ s. opened (record c.args.store.now
    { table = c.take_at-entry.new.self; clients = s })) c.end_loan.ensures.counted)

pub returns-clause-port : goal.returns-clause-port
returns-clause-port g c =
    port_then (opened c.args.store.now) c.requires.core c.args.number c.args.place _ c.take_at-entry.ensures.taken c.requires.kind _
    (ap (λ s. opened (record c.args.store.now { table = s })) c.take_at-entry.ensures.gone) _ (ap (λ s. opened (record c.args.store.now
    { table = c.take_at-entry.new.self; clients = s })) c.give_back.ensures) _ (ap (λ s. opened (record c.args.store.now
    { table = c.take_at-entry.new.self; clients = s })) c.end_loan.ensures.counted)

pub returns-clause-gone : goal.returns-clause-gone
returns-clause-gone g c =
    gone_then (opened c.args.store.now) c.requires.core c.args.number c.args.place _ c.take_at-entry.ensures.taken c.requires.kind _
    (ap (λ s. opened (record c.args.store.now { table = s })) c.take_at-entry.ensures.gone) _ (ap (λ s. opened (record c.args.store.now
    { table = c.take_at-entry.new.self; clients = s })) c.give_back.ensures) _ (ap (λ s. opened (record c.args.store.now
    { table = c.take_at-entry.new.self; clients = s })) c.end_loan.ensures.counted)

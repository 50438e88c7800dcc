use Rattle.std.proofs.Common.{◌∷◌, [], Ok}
use Rattle.rr_store.specs.Opened.{opened}
use Rattle.rr_store.specs.Sound.{empty_hand}
use Rattle.rr_store.specs.Views.{state_of}
use Rattle.rr_hub.proofs.Unnamed.{by_request}
use Rattle.rr_hub.proofs.laws.AtOnce.{request_at_once}
use Rattle.rr_hub.proofs.laws.NextNumber.{next_names_nothing}
use Rattle.rr_hub.proofs.laws.Written.{request_loaned}
use Rattle.rr_hub.proofs.at_once.request.send_request_in_steps.Goals as goal

pub send_loaned_request-requires-clause-kind : goal.send_loaned_request-requires-clause-kind
send_loaned_request-requires-clause-kind g c =
    request_loaned (state_of (opened c.args.store.now)) c.in-Ok.request (state_of (opened c.loan_request.new.store)) c.loan_request.ensures.core.reached
    g.QH.Default.is_default c.args.client 1 c.in-Ok.ensures.loans

pub returns-in-Ok-clause-sends : goal.returns-in-Ok-clause-sends
returns-in-Ok-clause-sends g c =
    request_at_once g.K.BackpressureFn.action (state_of (opened c.args.store.now)) (state_of (opened c.loan_request.new.store)) (state_of (opened c.send_loaned_request.new.store))
    c.args.client 1 c.in-Ok.request
    (by_request (state_of (opened c.args.store.now)) (next_names_nothing (opened c.args.store.now) empty_hand c.requires.core.sound)
    g.QH.Default.is_default c.args.client 1 (Ok c.in-Ok.request) _ c.in-Ok.ensures.loans)
    g.QH.Default.is_default (c.args.element ∷ []) c.in-Ok.ensures.loans c.send_loaned_request.ensures.ready c.send_loaned_request.result c.send_loaned_request.ensures.same c.send_loaned_request.ensures.sent
    c.send_loaned_request.ensures.refused

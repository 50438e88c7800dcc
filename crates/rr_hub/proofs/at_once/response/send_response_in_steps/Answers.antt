use Rattle.std.proofs.Common.{◌∷◌, [], Ok}
use Rattle.rr_store.specs.Opened.{opened}
use Rattle.rr_store.specs.Sound.{empty_hand}
use Rattle.rr_store.specs.Views.{state_of}
use Rattle.rr_hub.proofs.Unnamed.{by_response}
use Rattle.rr_hub.proofs.laws.AtOnce.{response_at_once}
use Rattle.rr_hub.proofs.laws.NextNumber.{next_names_nothing}
use Rattle.rr_hub.proofs.laws.Written.{response_loaned}
use Rattle.rr_hub.proofs.at_once.response.send_response_in_steps.Goals as goal

pub send_loaned_response-requires-clause-kind : goal.send_loaned_response-requires-clause-kind
send_loaned_response-requires-clause-kind g c =
    response_loaned (state_of (opened c.args.store.now)) c.in-Ok.response (state_of (opened c.loan_response_at.new.store)) c.loan_response_at.ensures.core.reached
    g.PH.Default.is_default c.args.active 1 c.in-Ok.ensures.loans

pub returns-in-Ok-clause-sends : goal.returns-in-Ok-clause-sends
returns-in-Ok-clause-sends g c =
    response_at_once g.K.BackpressureFn.action (state_of (opened c.args.store.now)) (state_of (opened c.loan_response_at.new.store)) (state_of (opened c.send_loaned_response.new.store))
    c.args.active 1 c.in-Ok.response
    (by_response (state_of (opened c.args.store.now)) (next_names_nothing (opened c.args.store.now) empty_hand c.requires.core.sound)
    g.PH.Default.is_default c.args.active 1 (Ok c.in-Ok.response) _ c.in-Ok.ensures.loans)
    g.PH.Default.is_default (c.args.element ∷ []) c.in-Ok.ensures.loans c.send_loaned_response.ensures.ready c.send_loaned_response.result c.send_loaned_response.ensures.sends

use Rattle.std.proofs.Common.{◌∷◌, [], ap, ◌∙◌, subst}
use Rattle.rr_protocol.specs.declared.kind.Kind.{Kind}
use Rattle.rr_store.specs.Opened.{opened}
use Rattle.rr_store.specs.Views.{state_of}
use Rattle.rr_hub.specs.Copies.{IsOfCore, with_complete_response}
use Rattle.rr_hub.proofs.laws.OfCore.{of_core}
use Rattle.rr_hub.proofs.laws.Written.{is_there, response_ready}
use Rattle.rr_hub.proofs.at_once.response.send_loaned_response.Goals as goal

pub locate-place-requires : goal.locate-place-requires
locate-place-requires g c = is_there (state_of (opened c.args.store.now)) c.args.response.now Kind.ResponseMutUninit (λ e. cc) (λ e. cc) c.requires.kind

pub locate-place-requires-2 : goal.locate-place-requires-2
locate-place-requires-2 g c =
    is_there (state_of (opened c.write_response_at.new.store)) c.args.response.now Kind.ResponseMut (λ e. cc) (λ e. cc)
    (response_ready (state_of (opened c.args.store.now)) c.args.response.now (state_of (opened c.write_response_at.new.store)) c.write_response_at.ensures.core.reached (c.args.element ∷ [])
    (c.write_response_at.ensures.view
    ∙ ap (λ n. with_complete_response (state_of (opened c.args.store.now)) n (c.args.element ∷ [])) c.number-number.ensures) c.requires.kind)

pub send_response_at-requires-clause-kind : goal.send_response_at-requires-clause-kind
send_response_at-requires-clause-kind g c =
    rw c.number-number.ensures
    (response_ready (state_of (opened c.args.store.now)) c.args.response.now (state_of (opened c.write_response_at.new.store)) c.write_response_at.ensures.core.reached (c.args.element ∷ [])
    (c.write_response_at.ensures.view
    ∙ ap (λ n. with_complete_response (state_of (opened c.args.store.now)) n (c.args.element ∷ [])) c.number-number.ensures) c.requires.kind)

pub returns-clause-ready : goal.returns-clause-ready
returns-clause-ready g c =
    subst IsOfCore (c.write_response_at.ensures.view
    ∙ ap (λ n. with_complete_response (state_of (opened c.args.store.now)) n (c.args.element ∷ [])) c.number-number.ensures)
    (of_core (opened c.write_response_at.new.store) c.write_response_at.ensures.core)

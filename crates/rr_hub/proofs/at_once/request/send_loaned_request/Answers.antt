use Rattle.std.proofs.Common.{◌∷◌, [], ap, ◌∙◌, subst}
use Rattle.rr_protocol.specs.declared.kind.Kind.{Kind}
use Rattle.rr_store.specs.Opened.{opened}
use Rattle.rr_store.specs.Views.{state_of}
use Rattle.rr_hub.specs.Copies.{IsOfCore, with_complete_request}
use Rattle.rr_hub.proofs.laws.OfCore.{of_core}
use Rattle.rr_hub.proofs.laws.Written.{is_there, request_ready}
use Rattle.rr_hub.proofs.at_once.request.send_loaned_request.Goals as goal

pub locate-place-requires : goal.locate-place-requires
locate-place-requires g c = is_there (state_of (opened c.args.store.now)) c.args.request Kind.RequestMutUninit (λ e. cc) (λ e. cc) c.requires.kind

pub locate-place-requires-2 : goal.locate-place-requires-2
locate-place-requires-2 g c =
    is_there (state_of (opened c.write_request_at.new.store)) c.args.request Kind.RequestMut (λ e. cc) (λ e. cc)
    (request_ready (state_of (opened c.args.store.now)) c.args.request (state_of (opened c.write_request_at.new.store)) c.write_request_at.ensures.core.reached (c.args.element ∷ [])
    (c.write_request_at.ensures.view
    ∙ ap (λ n. with_complete_request (state_of (opened c.args.store.now)) n (c.args.element ∷ [])) c.number-number.ensures) c.requires.kind)

pub send_request_at-requires-clause-kind : goal.send_request_at-requires-clause-kind
send_request_at-requires-clause-kind g c =
    rw c.number-number.ensures
    (request_ready (state_of (opened c.args.store.now)) c.args.request (state_of (opened c.write_request_at.new.store)) c.write_request_at.ensures.core.reached (c.args.element ∷ [])
    (c.write_request_at.ensures.view
    ∙ ap (λ n. with_complete_request (state_of (opened c.args.store.now)) n (c.args.element ∷ [])) c.number-number.ensures) c.requires.kind)

pub returns-in-Ok-clause-ready : goal.returns-in-Ok-clause-ready
returns-in-Ok-clause-ready g c =
    subst IsOfCore (c.write_request_at.ensures.view
    ∙ ap (λ n. with_complete_request (state_of (opened c.args.store.now)) n (c.args.element ∷ [])) c.number-number.ensures)
    (of_core (opened c.write_request_at.new.store) c.write_request_at.ensures.core)

pub returns-in-Err-clause-ready : goal.returns-in-Err-clause-ready
returns-in-Err-clause-ready g c =
    subst IsOfCore (c.write_request_at.ensures.view
    ∙ ap (λ n. with_complete_request (state_of (opened c.args.store.now)) n (c.args.element ∷ [])) c.number-number.ensures)
    (of_core (opened c.write_request_at.new.store) c.write_request_at.ensures.core)

use Rattle.std.proofs.Common.{◌≡◌, ap, refl, ◌∙◌, [], ◌∷◌, arith}
use Rattle.std.proofs.Common.{inl}
use Rattle.rr_protocol.specs.Messages.{RequestMessage, RequestMutUninit}
use Rattle.rr_protocol.specs.Queries.{kind_at}
use Rattle.rr_protocol.specs.Writing.{with_elements}
use Rattle.rr_protocol.specs.Step.{with_content}
use Rattle.rr_run.proofs.Copies.{IsFresh, fresh_request, fresh_kind, blank, request_pushed, still_uninit, ready, completed, sendable}
use Rattle.rr_run.proofs.runner.sends.written_request.Goals.{In_ok-id, After-push_request}
use Rattle.rr_run.proofs.runner.sends.written_request.Goals as goal

-- the request that was loaned
fresh : (g : _) (c : In_ok-id g) → (m : RequestMessage _ _)
    × IsFresh c.loan_request.new.self c.in_ok-id.id 1 (λ content. RequestMutUninit (record m { content = content }))
fresh g c =
    fresh_request g.H.Default.is_default c.args.core.now c.args.client 1 c.in_ok-id.id c.loan_request.new.self
    c.in_ok-id.ensures.unnamed c.in_ok-id.ensures.loans

-- and the element in it
pushed : (g : _) (c : After-push_request g) → (m : RequestMessage _ _)
    × IsFresh c.loan_request.new.self c.in_ok-id.id 1 (λ content. RequestMutUninit (record m { content = content }))
    → c.push_request.new.self ≡ with_content c.loan_request.new.self c.in_ok-id.id (with_elements (c.args.item ∷ []))
pushed g c f =
    request_pushed c.loan_request.new.self c.in_ok-id.id 1 [] (omega arith) c.loan_request.new.self
    (blank c.loan_request.new.self c.in_ok-id.id 1 (λ content. RequestMutUninit (record f.0 { content = content })) f.1 (λ change content. refl))
    c.args.item c.push_request.result c.push_request.new.self f.0 f.1 c.push_request.ensures

pub push_request-requires : goal.push_request-requires
push_request-requires g c =
    let f = fresh g (goal.at.push_request-requires g c).In_ok-id in
    fresh_kind c.loan_request.new.self c.in_ok-id.id 1 (λ content. RequestMutUninit (record f.0 { content = content })) f.1

pub assume_init-requires-clause-uninit : goal.assume_init-requires-clause-uninit
assume_init-requires-clause-uninit g c =
    let at = goal.at.assume_init-requires-clause-uninit g c in
    let f = fresh g at.In_ok-id in
    inl (still_uninit c.loan_request.new.self c.in_ok-id.id 1 (λ content. RequestMutUninit (record f.0 { content = content })) f.1
    (λ change content. refl) (c.args.item ∷ []) c.push_request.new.self (pushed g at.After-push_request f))

pub assume_init-requires-clause-complete : goal.assume_init-requires-clause-complete
assume_init-requires-clause-complete g c =
    let at = goal.at.assume_init-requires-clause-complete g c in
    let f = fresh g at.In_ok-id in
    ready c.loan_request.new.self c.in_ok-id.id 1 (λ content. RequestMutUninit (record f.0 { content = content })) f.1
    (λ change content. refl) (c.args.item ∷ []) c.push_request.new.self (pushed g at.After-push_request f) refl

pub returns : goal.returns
returns g c =
    let at = goal.at.returns g c in
    let f = fresh g at.In_ok-id in
    let is = pushed g at.After-push_request f in (
      c.loan_request.new.self,
      c.in_ok-id.ensures.loans,
      c.assume_init.ensures
          ∙ completed c.loan_request.new.self c.in_ok-id.id 1 (λ content. RequestMutUninit (record f.0 { content = content })) f.1
          (λ change content. refl) (c.args.item ∷ []) c.push_request.new.self is,
      ap (λ t. kind_at t c.in_ok-id.id) c.assume_init.ensures
          ∙ sendable c.loan_request.new.self c.in_ok-id.id 1 (λ content. RequestMutUninit (record f.0 { content = content })) f.1
          (λ change content. refl) (c.args.item ∷ []) c.push_request.new.self is,
    )

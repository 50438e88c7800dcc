use Rattle.std.proofs.Common.{◌≡◌, ap, refl, ◌∙◌, [], ◌∷◌, arith}
use Rattle.std.proofs.Common.{inr}
use Rattle.rr_protocol.specs.Messages.{ResponseMessage, ResponseMutUninit}
use Rattle.rr_protocol.specs.Queries.{kind_at}
use Rattle.rr_protocol.specs.Writing.{with_elements}
use Rattle.rr_protocol.specs.Step.{with_content}
use Rattle.rr_run.proofs.Copies.{IsFresh, fresh_response, fresh_kind, blank, response_pushed, still_uninit, ready, completed, sendable}
use Rattle.rr_run.proofs.runner.sends.written_response.Goals.{In_ok-id, After-push_response}
use Rattle.rr_run.proofs.runner.sends.written_response.Goals as goal

-- the response that was loaned
fresh : (g : _) (c : In_ok-id g) → (m : ResponseMessage _ _)
    × IsFresh c.loan_response.new.self c.in_ok-id.id 1 (λ content. ResponseMutUninit (record m { content = content }))
fresh g c =
    fresh_response g.H.Default.is_default c.args.core.now c.args.active.now 1 c.in_ok-id.id c.loan_response.new.self
    c.in_ok-id.ensures.unnamed c.in_ok-id.ensures.loans

-- and the element in it
pushed : (g : _) (c : After-push_response g) → (m : ResponseMessage _ _)
    × IsFresh c.loan_response.new.self c.in_ok-id.id 1 (λ content. ResponseMutUninit (record m { content = content }))
    → c.push_response.new.self ≡ with_content c.loan_response.new.self c.in_ok-id.id (with_elements (c.args.item ∷ []))
pushed g c f =
    response_pushed c.loan_response.new.self c.in_ok-id.id 1 [] (omega arith) c.loan_response.new.self
    (blank c.loan_response.new.self c.in_ok-id.id 1 (λ content. ResponseMutUninit (record f.0 { content = content })) f.1 (λ change content. refl))
    c.args.item c.push_response.result c.push_response.new.self f.0 f.1 c.push_response.ensures

pub push_response-requires : goal.push_response-requires
push_response-requires g c =
    let f = fresh g (goal.at.push_response-requires g c).In_ok-id in
    fresh_kind c.loan_response.new.self c.in_ok-id.id 1 (λ content. ResponseMutUninit (record f.0 { content = content })) f.1

pub assume_init-requires-clause-uninit : goal.assume_init-requires-clause-uninit
assume_init-requires-clause-uninit g c =
    let at = goal.at.assume_init-requires-clause-uninit g c in
    let f = fresh g at.In_ok-id in
    inr (still_uninit c.loan_response.new.self c.in_ok-id.id 1 (λ content. ResponseMutUninit (record f.0 { content = content })) f.1
    (λ change content. refl) (c.args.item ∷ []) c.push_response.new.self (pushed g at.After-push_response f))

pub assume_init-requires-clause-complete : goal.assume_init-requires-clause-complete
assume_init-requires-clause-complete g c =
    let at = goal.at.assume_init-requires-clause-complete g c in
    let f = fresh g at.In_ok-id in
    ready c.loan_response.new.self c.in_ok-id.id 1 (λ content. ResponseMutUninit (record f.0 { content = content })) f.1
    (λ change content. refl) (c.args.item ∷ []) c.push_response.new.self (pushed g at.After-push_response f) refl

pub returns : goal.returns
returns g c =
    let at = goal.at.returns g c in
    let f = fresh g at.In_ok-id in
    let is = pushed g at.After-push_response f in (
      c.loan_response.new.self,
      c.in_ok-id.ensures.loans,
      c.assume_init.ensures
          ∙ completed c.loan_response.new.self c.in_ok-id.id 1 (λ content. ResponseMutUninit (record f.0 { content = content })) f.1
          (λ change content. refl) (c.args.item ∷ []) c.push_response.new.self is,
      ap (λ t. kind_at t c.in_ok-id.id) c.assume_init.ensures
          ∙ sendable c.loan_response.new.self c.in_ok-id.id 1 (λ content. ResponseMutUninit (record f.0 { content = content })) f.1
          (λ change content. refl) (c.args.item ∷ []) c.push_response.new.self is,
    )

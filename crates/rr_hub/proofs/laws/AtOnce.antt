-- A loan, and what follows of its written message, as one call.
use Rattle.std.proofs.Common.{◌≡◌, ℕ, List, None, sym, subst, inr, Result, Ok, Err}
use Rattle.std.specs.Prelude.{IfErr, IfOk}
use Rattle.rr_protocol.specs.declared.error.RequestSendError.{RequestSendError}
use Rattle.rr_protocol.specs.declared.error.SendError.{SendError}
use Rattle.rr_protocol.specs.declared.settings.BackpressureAction.{BackpressureAction}
use Rattle.rr_protocol.specs.Loans.{LoansRequest, LoansResponse}
use Rattle.rr_protocol.specs.Queries.{kind_at}
use Rattle.rr_protocol.specs.Sends.{SendsRequest, SendsResponse}
use Rattle.rr_protocol.specs.State.{State}
use Rattle.rr_hub.specs.Copies.{IsOfCore, SendsRequestAtOnce, SendsResponseAtOnce, with_complete_request, with_complete_response}

module _ {Q QH P PH K : Type 0} (action : K → ℕ → ℕ → BackpressureAction) (old mid new : State Q QH P PH K) (n len k : ℕ) (unnamed : kind_at old k ≡ None) where
  -- a request that keeps its number, or a refusal
  pub request_at_once : (IsDefault : QH → Type 0) (elements : List Q) → LoansRequest IsDefault old n len (Ok k) mid → IsOfCore (with_complete_request mid k elements)
      → (result : Result ℕ RequestSendError) → IfOk result (λ pending. pending ≡ k)
      → IfOk result (λ pending. (connections : ℕ) × SendsRequest action (with_complete_request mid k elements) k (Ok connections) new)
      → IfErr result (λ error. SendsRequest action (with_complete_request mid k elements) k (Err error) new)
      → SendsRequestAtOnce IsDefault action old n len elements result new
  request_at_once IsDefault elements loans ready (Ok pending) same sent refused =
      subst (λ i. SendsRequestAtOnce IsDefault action old n len elements (Ok i) new) (sym same) (mid, loans, unnamed, ready, sent)
  request_at_once IsDefault elements loans ready (Err error) same sent refused = inr (mid, k, loans, unnamed, ready, refused)

  -- a response
  pub response_at_once : {U : Type 0} (IsDefault : PH → Type 0) (elements : List P) → LoansResponse IsDefault old n len (Ok k) mid
      → IsOfCore (with_complete_response mid k elements) → (result : Result U SendError)
      → SendsResponse action (with_complete_response mid k elements) k result new → SendsResponseAtOnce IsDefault action old n len elements result new
  response_at_once IsDefault elements loans ready (Ok unit) sends = (mid, k, loans, unnamed, ready, sends)
  response_at_once IsDefault elements loans ready (Err error) sends = inr (mid, k, loans, unnamed, ready, sends)

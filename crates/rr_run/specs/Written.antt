-- A message of one element that was loaned, written and made ready to send.
use Rattle.std.specs.Prelude.{◌≡◌, ℕ, [], ◌∷◌, Some, Result, Ok, Err}
use Rattle.rr_protocol.specs.declared.kind.Kind.{Kind}
use Rattle.rr_protocol.specs.declared.error.LoanError.{LoanError}
use Rattle.rr_protocol.specs.State.{State}
use Rattle.rr_protocol.specs.Queries.{kind_at}
use Rattle.rr_protocol.specs.Loans.{LoansRequest, LoansResponse}
use Rattle.rr_protocol.specs.Step.{with_complete}

module _ {T H K : Type 0} where
  -- a request of a client, which can be sent then, or the refusal of its loan
  abbrev pub WritesRequest : (H → Type 0) → State T H T H K → ℕ → T → Result ℕ LoanError → State T H T H K → Type 0
  WritesRequest IsDefault old n v (Ok k) new =
      (mid : State T H T H K) × LoansRequest IsDefault old n 1 (Ok k) mid
      × (new ≡ with_complete mid k (v ∷ [])) × (kind_at new k ≡ Some Kind.RequestMut)
  WritesRequest IsDefault old n v (Err error) new = LoansRequest IsDefault old n 1 (Err error) new

  -- the same of a response of an active request
  abbrev pub WritesResponse : (H → Type 0) → State T H T H K → ℕ → T → Result ℕ LoanError → State T H T H K → Type 0
  WritesResponse IsDefault old n v (Ok k) new =
      (mid : State T H T H K) × LoansResponse IsDefault old n 1 (Ok k) mid
      × (new ≡ with_complete mid k (v ∷ [])) × (kind_at new k ≡ Some Kind.ResponseMut)
  WritesResponse IsDefault old n v (Err error) new = LoansResponse IsDefault old n 1 (Err error) new

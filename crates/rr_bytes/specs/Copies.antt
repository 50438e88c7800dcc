-- A call that loans a message, copies elements to it and sends it.
use Rattle.std.specs.Prelude.{◌≡◌, ◌⊎◌, ◌==◌, ℕ, if◌then◌else◌, List, length, Option, Some, None, MatchOption, Result, Ok, Err}
use Rattle.rr_protocol.specs.declared.kind.Kind.{Kind}
use Rattle.rr_protocol.specs.declared.error.LoanError.{LoanError}
use Rattle.rr_protocol.specs.declared.settings.BackpressureAction.{BackpressureAction}
use Rattle.rr_protocol.specs.Loans.{LoansRequest, LoansResponse}
use Rattle.rr_protocol.specs.Sends.{SendsRequest, SendsResponse}
use Rattle.rr_protocol.specs.State.{State, numbers_left}
use Rattle.rr_protocol.specs.Step.{with_complete}
use Rattle.rr_checked.specs.declared.refusal.Refusal.{Refusal}
use Rattle.rr_checked.specs.declared.refusal.Refusal.TheVariants as refusal
use Rattle.rr_bytes.specs.declared.slices.copies.SentCopy.{SentCopy}
use Rattle.rr_bytes.specs.declared.slices.copies.SentCopy.TheVariants as copy
use Rattle.rr_bytes.specs.Refused.{refusal_by_kind}

module _ {T H K : Type 0} where
  -- why a kind of thing sends no copy, if it doesn't
  abbrev pub copy_refusal_of_kind : State T H T H K → Kind → Option Refusal
  copy_refusal_of_kind s Kind.Client = if numbers_left s == 0 then Some refusal.NumbersExhausted else None
  copy_refusal_of_kind s Kind.ActiveRequest = if numbers_left s == 0 then Some refusal.NumbersExhausted else None
  copy_refusal_of_kind s kind = Some refusal.WrongKind

  -- why a number can't send a copy, before anything is loaned
  abbrev pub copy_refusal : State T H T H K → ℕ → Option Refusal
  copy_refusal s n = refusal_by_kind (copy_refusal_of_kind s) refusal.Unknown s n

module _ {T H K : Type 0} (IsDefaultHeader : H → Type 0) where
  -- a client's request is loaned that has these elements, and can be sent; or nothing changes
  abbrev pub CopiesRequest : State T H T H K → ℕ → List T → Result ℕ LoanError → State T H T H K → Type 0
  CopiesRequest old n elements (Ok k) new =
      (mid : State T H T H K) × LoansRequest IsDefaultHeader old n (length elements) (Ok k) mid
      × (new ≡ with_complete mid k elements)
  CopiesRequest old n elements (Err error) new = LoansRequest IsDefaultHeader old n (length elements) (Err error) new

  -- and so a response of an active request
  abbrev pub CopiesResponse : State T H T H K → ℕ → List T → Result ℕ LoanError → State T H T H K → Type 0
  CopiesResponse old n elements (Ok k) new =
      (mid : State T H T H K) × LoansResponse IsDefaultHeader old n (length elements) (Ok k) mid
      × (new ≡ with_complete mid k elements)
  CopiesResponse old n elements (Err error) new =
      LoansResponse IsDefaultHeader old n (length elements) (Err error) new

module _ {T H K : Type 0} (action : K → ℕ → ℕ → BackpressureAction) (IsDefaultHeader : H → Type 0) where
  -- a message is loaned, gets these elements and is sent; or the loan is refused; or the send is refused, and the
  -- message is released
  abbrev pub SendsCopy : State T H T H K → ℕ → List T → Result SentCopy Refusal → State T H T H K → Type 0
  SendsCopy old n elements (Ok (copy.Request id servers)) new =
      (mid : State T H T H K) × CopiesRequest IsDefaultHeader old n elements (Ok id.number) mid
      × SendsRequest action mid id.number (Ok servers) new
  SendsCopy old n elements (Ok (copy.Response id)) new =
      (mid : State T H T H K) × CopiesResponse IsDefaultHeader old n elements (Ok id.number) mid
      × SendsResponse action mid id.number (Ok id.number) new
  SendsCopy old n elements (Err (refusal.Loan error)) new =
      CopiesRequest IsDefaultHeader old n elements (Err error) new
      ⊎ CopiesResponse IsDefaultHeader old n elements (Err error) new
  SendsCopy old n elements (Err (refusal.Request error)) new =
      (mid : State T H T H K) × (k : ℕ) × CopiesRequest IsDefaultHeader old n elements (Ok k) mid
      × SendsRequest action mid k (Err error) new
  SendsCopy old n elements (Err (refusal.Send error)) new =
      (mid : State T H T H K) × (k : ℕ) × CopiesResponse IsDefaultHeader old n elements (Ok k) mid
      × SendsResponse {U = ℕ} action mid k (Err error) new
  SendsCopy old n elements (Err other) new = ⊥

  -- a number sends a copy, or the call is refused and nothing changes
  abbrev pub SendsCopyOf : State T H T H K → ℕ → List T → Result SentCopy Refusal → State T H T H K → Type 0
  SendsCopyOf old n elements result new =
      MatchOption (copy_refusal old n) (SendsCopy old n elements result new) (λ due. (result ≡ Err due) × (new ≡ old))

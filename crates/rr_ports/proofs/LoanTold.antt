-- What calls tell of a loan, and of what is written into it, as those know it that loan and write.
use Rattle.std.proofs.Common.{◌≡◌, ◌≢◌, ℕ, suc, ◌+◌, ◌≤◌, List, [], ◌∷◌, Ok, Err}
use Rattle.std.specs.Prelude.{IfErr}
use Rattle.rr_protocol.specs.declared.error.LoanError.{LoanError}
use Rattle.rr_protocol.specs.declared.kind.Kind.{Kind}
use Rattle.rr_protocol.specs.Loans.{LoansRequest, LoansResponse}
use Rattle.rr_protocol.specs.State.{State}
use Rattle.rr_laws.specs.Unreduced.{ClientHasPool, ServerHasPool}
use Rattle.rr_ports.specs.Facts.{Answers, AskedLen, Asks, Has, IsFree, Keeps, Names, Of, WholePool, numbers_left}
use Rattle.rr_hub.specs.Copies.{with_complete_request, with_complete_response}
use Rattle.rr_ports.specs.Owning.{IsBelow, KeepsOwned, Owns}
use Rattle.rr_ports.specs.Queues.{KeepsAwaited, KeepsHeard}

module _ {Q QH P PH K : Type 0} where
  -- what a call tells of the loan of a request, and of what is written into it
  abbrev pub RequestLoaned : (QH → Type 0) → State Q QH P PH K → State Q QH P PH K → ℕ → ℕ → ℕ → Type 0
  RequestLoaned IsDefault old new n len k = record {
    loans : LoansRequest IsDefault old n len (Ok k) new;
    unreduced : ClientHasPool old.limits old n len → Ok k ≢ Err LoanError.OutOfMemory;
    whole : (room : ℕ) → len ≤ room → Has old n (WholePool room) → Ok k ≢ Err LoanError.OutOfMemory;
    free : IsFree [] old k;
    kind : Names new k Kind.RequestMutUninit;
    says : Has new k (Asks []);
    asked : Has new k (AskedLen len);
    keeps : Keeps [] old new;
    numbers : numbers_left old ≤ numbers_left new + 1;
    of : Has new k (Of n k);
    heard : KeepsHeard [] old new;
    awaited : KeepsAwaited [] old new;
    owned : KeepsOwned (n ∷ []) old new;
    owns : (most : ℕ) → Owns old n most → Owns new n (suc most);
    owns_err : IfErr (Ok k) (λ (e : LoanError). KeepsOwned [] old new);
    few_loans : (most : ℕ) → Owns old n most → IsBelow most old.limits.max_loaned_requests → Ok k ≢ Err LoanError.ExceedsMaxLoans;
    sure : (room : ℕ) → len ≤ room → Has old n (WholePool room) → Owns old n 0 → (error : LoanError) → Ok k ≢ Err error;
  }

  abbrev pub RequestWritten : State Q QH P PH K → State Q QH P PH K → ℕ → ℕ → List Q → Type 0
  RequestWritten old new k given elements = record {
    same : given ≡ k;
    written : new ≡ with_complete_request old k elements;
    kind : Names new given Kind.RequestMut;
    says : Has new given (Asks elements);
    keeps : Keeps (k ∷ []) old new;
    numbers : numbers_left new ≡ numbers_left old;
    of : (port request : ℕ) → Has old k (Of port request) → Has new given (Of port request);
    heard : KeepsHeard (k ∷ []) old new;
    awaited : KeepsAwaited (k ∷ []) old new;
    owned : KeepsOwned [] old new;
  }

  -- and of a response
  abbrev pub ResponseLoaned : (PH → Type 0) → State Q QH P PH K → State Q QH P PH K → ℕ → ℕ → ℕ → Type 0
  ResponseLoaned IsDefault old new n len k = record {
    loans : LoansResponse IsDefault old n len (Ok k) new;
    unreduced : ServerHasPool old.limits old n len → Ok k ≢ Err LoanError.OutOfMemory;
    whole : (room : ℕ) → len ≤ room → Has old n (WholePool room) → Ok k ≢ Err LoanError.OutOfMemory;
    free : IsFree [] old k;
    kind : Names new k Kind.ResponseMutUninit;
    says : Has new k (Answers []);
    asked : Has new k (AskedLen len);
    keeps : Keeps [] old new;
    numbers : numbers_left old ≤ numbers_left new + 1;
    of : (port request : ℕ) → Has old n (Of port request) → Has new k (Of port request);
    heard : KeepsHeard [] old new;
    awaited : KeepsAwaited [] old new;
    owned : (port request : ℕ) → Has old n (Of port request) → KeepsOwned (port ∷ []) old new;
    owns : (port request most : ℕ) → Has old n (Of port request) → Owns old port most → Owns new port (suc most);
    owns_err : IfErr (Ok k) (λ (e : LoanError). KeepsOwned [] old new);
    few_loans : (port request : ℕ) → Has old n (Of port request) → Owns old port 1 → Ok k ≢ Err LoanError.ExceedsMaxLoans;
    sure : (port request room : ℕ) → Has old n (Of port request) → len ≤ room → Has old n (WholePool room) → Owns old port 1 → (error : LoanError) → Ok k ≢ Err error;
  }

  abbrev pub ResponseWritten : State Q QH P PH K → State Q QH P PH K → ℕ → ℕ → List P → Type 0
  ResponseWritten old new k given elements = record {
    same : given ≡ k;
    written : new ≡ with_complete_response old k elements;
    kind : Names new given Kind.ResponseMut;
    says : Has new given (Answers elements);
    keeps : Keeps (k ∷ []) old new;
    numbers : numbers_left new ≡ numbers_left old;
    of : (port request : ℕ) → Has old k (Of port request) → Has new given (Of port request);
    heard : KeepsHeard (k ∷ []) old new;
    awaited : KeepsAwaited (k ∷ []) old new;
    owned : KeepsOwned [] old new;
  }

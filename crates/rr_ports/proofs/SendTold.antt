-- What calls tell of a send, and of one of what was loaned and written before it.
use Rattle.std.proofs.Common.{◌≡◌, ◌≢◌, ℕ, suc, ◌+◌, ◌≤◌, ◌<◌, List, [], ◌∷◌, ◌++◌, length, Result, Err}
use Rattle.std.specs.Prelude.{IfErr, IfOk, IsOk, OnOk}
use Rattle.rr_protocol.specs.declared.error.LoanError.{LoanError}
use Rattle.rr_protocol.specs.declared.error.RequestSendError.{RequestSendError}
use Rattle.rr_protocol.specs.declared.error.SendError.{SendError}
use Rattle.rr_protocol.specs.declared.kind.Kind.{Kind}
use Rattle.rr_protocol.specs.declared.settings.BackpressureAction.{BackpressureAction}
use Rattle.rr_protocol.specs.Sends.{SendsResponse}
use Rattle.rr_protocol.specs.State.{State}
use Rattle.rr_laws.specs.Unreduced.{ClientHasPool, ServerHasPool}
use Rattle.rr_ports.specs.Facts.{Answers, Asks, Buffers, Discards, Has, IsFree, Keeps, Names, Of, WholePool, numbers_left}
use Rattle.rr_ports.specs.Loaning.{SendsElements, SendsResponseElements}
use Rattle.rr_ports.specs.Owning.{IsBelow, KeepsOwned, Owns}
use Rattle.rr_ports.specs.Queues.{Awaits, AwaitsNothing, Hears, HearsNothing, KeepsAwaited, KeepsHeard}
use Rattle.rr_ports.specs.Sending.{SendsPending}

module _ {Q QH P PH K : Type 0} where
  -- what a call tells of the send of a request
  abbrev pub RequestSent : (K → ℕ → ℕ → BackpressureAction) → State Q QH P PH K → State Q QH P PH K → ℕ → Result ℕ RequestSendError → Type 0
  RequestSent action old new n result = record {
    sends : SendsPending action old n result new;
    kind : IfOk result (λ pending. Names new pending Kind.PendingResponse);
    says : IfOk result (λ pending. (xs : List Q) → Has old n (Asks xs) → Has new pending (Asks xs));
    keeps : Keeps (n ∷ []) old new;
    numbers : numbers_left new ≡ numbers_left old;
    of : (port request : ℕ) → Has old n (Of port request) → IfOk result (λ pending. Has new pending (Of port pending));
    hears : (server : ℕ) → Names old server Kind.Server → HearsNothing old server → IfOk result (λ pending. Hears new server pending);
    awaits : IfOk result (λ pending. AwaitsNothing new pending);
    awaited : (port request : ℕ) → Has old n (Of port request) → Names old port Kind.Client → KeepsAwaited (n ∷ []) old new;
    refused : (port request : ℕ) → Has old n (Of port request) → Names old port Kind.Client → IfErr result (λ error. KeepsHeard (n ∷ []) old new);
    buffers : (port room : ℕ) → Has old port (Buffers room) → IfOk result (λ pending. Has new pending (Buffers room));
    discards : (port request : ℕ) → Has old n (Of port request) → Has old port Discards → result ≢ Err (RequestSendError.SendError SendError.UnableToDeliver);
    owned : KeepsOwned [] old new;
    frees : (port request most : ℕ) → Has old n (Of port request) → Owns old port (suc most) → IfErr result (λ error. Owns new port most);
    few_active : (port request most : ℕ) → Has old n (Of port request) → Owns old port (suc most) → IsBelow most old.limits.max_active_requests_per_client
        → result ≢ Err RequestSendError.ExceedsMaxActiveRequests;
    sure : (port request : ℕ) → Has old n (Of port request) → Has old port Discards → Owns old port 1 → (error : RequestSendError) → result ≢ Err error;
  }

  -- and of a request that it loaned and wrote itself
  abbrev pub RequestCopied : (QH → Type 0) → (K → ℕ → ℕ → BackpressureAction) → State Q QH P PH K → State Q QH P PH K → ℕ → ℕ → List Q
      → Result ℕ RequestSendError → Type 0
  RequestCopied IsDefault action old new n len elements result = record {
    sends : SendsElements IsDefault action old n len elements result new;
    unreduced : ClientHasPool old.limits old n len → result ≢ Err (RequestSendError.SendError (SendError.LoanError LoanError.OutOfMemory));
    whole : (room : ℕ) → len ≤ room → Has old n (WholePool room) → result ≢ Err (RequestSendError.SendError (SendError.LoanError LoanError.OutOfMemory));
    free : IfOk result (λ pending. IsFree [] old pending);
    kind : IfOk result (λ pending. Names new pending Kind.PendingResponse);
    says : IfOk result (λ pending. Has new pending (Asks elements));
    keeps : Keeps [] old new;
    numbers : numbers_left old ≤ numbers_left new + 1;
    of : IfOk result (λ pending. Has new pending (Of n pending));
    hears : (server : ℕ) → Names old server Kind.Server → HearsNothing old server → IfOk result (λ pending. Hears new server pending);
    awaits : IfOk result (λ pending. AwaitsNothing new pending);
    awaited : KeepsAwaited [] old new;
    refused : IfErr result (λ error. KeepsHeard [] old new);
    buffers : (port room : ℕ) → Has old port (Buffers room) → IfOk result (λ pending. Has new pending (Buffers room));
    discards : Has old n Discards → result ≢ Err (RequestSendError.SendError SendError.UnableToDeliver);
    owned : KeepsOwned (n ∷ []) old new;
    owns : (most : ℕ) → Owns old n most → IfOk result (λ pending. Owns new n (suc most));
    owns_err : IfErr result (λ error. KeepsOwned [] old new);
    few_loans : (most : ℕ) → Owns old n most → IsBelow most old.limits.max_loaned_requests
        → result ≢ Err (RequestSendError.SendError (SendError.LoanError LoanError.ExceedsMaxLoans));
    few_active : (most : ℕ) → Owns old n most → IsBelow most old.limits.max_active_requests_per_client → result ≢ Err RequestSendError.ExceedsMaxActiveRequests;
    sure : (room : ℕ) → len ≤ room → Has old n (WholePool room) → Has old n Discards → Owns old n 0 → (error : RequestSendError) → result ≢ Err error;
  }

  -- what a call tells of the send of a response
  abbrev pub ResponseSent : {U : Type 0} → (K → ℕ → ℕ → BackpressureAction) → State Q QH P PH K → State Q QH P PH K → ℕ → Result U SendError → Type 0
  ResponseSent action old new n result = record {
    sends : SendsResponse action old n result new;
    keeps : Keeps (n ∷ []) old new;
    numbers : numbers_left new ≡ numbers_left old;
    first : (server pending : ℕ) (xs : List P) → Has old n (Of server pending) → Names old server Kind.Server → Has old n (Answers xs)
        → AwaitsNothing old pending → OnOk result (Awaits new pending server (xs ∷ []));
    next : (server pending : ℕ) (answers : List (List P)) (xs : List P) → Has old n (Of server pending) → Names old server Kind.Server → Has old n (Answers xs)
        → Awaits old pending server answers → length answers < old.limits.max_response_buffer_size → OnOk result (Awaits new pending server (answers ++ xs ∷ []));
    heard : (port request : ℕ) → Has old n (Of port request) → Names old port Kind.Server → KeepsHeard (n ∷ []) old new;
    awaited : (server pending : ℕ) → Has old n (Of server pending) → Names old server Kind.Server → KeepsAwaited (n ∷ pending ∷ []) old new;
    refused : (server pending : ℕ) → Has old n (Of server pending) → Names old server Kind.Server → IfErr result (λ error. KeepsAwaited (n ∷ []) old new);
    delivered : (server pending : ℕ) → Has old n (Of server pending) → AwaitsNothing old pending → IsOk result;
    room : (server pending : ℕ) (answers : List (List P)) → Has old n (Of server pending) → Awaits old pending server answers
        → length answers < old.limits.max_response_buffer_size → IsOk result;
    discards : (port request : ℕ) → Has old n (Of port request) → Has old port Discards → IsOk result;
    owned : KeepsOwned [] old new;
    frees : (port request most : ℕ) → Has old n (Of port request) → Owns old port (suc most) → Owns new port most;
  }

  -- and of a response that it loaned and wrote itself
  abbrev pub ResponseCopied : {U : Type 0} → (PH → Type 0) → (K → ℕ → ℕ → BackpressureAction) → State Q QH P PH K → State Q QH P PH K → ℕ → ℕ → List P
      → Result U SendError → Type 0
  ResponseCopied IsDefault action old new n len elements result = record {
    sends : SendsResponseElements IsDefault action old n len elements result new;
    unreduced : ServerHasPool old.limits old n len → result ≢ Err (SendError.LoanError LoanError.OutOfMemory);
    whole : (room : ℕ) → len ≤ room → Has old n (WholePool room) → result ≢ Err (SendError.LoanError LoanError.OutOfMemory);
    keeps : Keeps [] old new;
    numbers : numbers_left old ≤ numbers_left new + 1;
    first : (server pending : ℕ) → Has old n (Of server pending) → Names old server Kind.Server → AwaitsNothing old pending
        → OnOk result (Awaits new pending server (elements ∷ []));
    next : (server pending : ℕ) (answers : List (List P)) → Has old n (Of server pending) → Names old server Kind.Server → Awaits old pending server answers
        → length answers < old.limits.max_response_buffer_size → OnOk result (Awaits new pending server (answers ++ elements ∷ []));
    heard : (port request : ℕ) → Has old n (Of port request) → Names old port Kind.Server → KeepsHeard [] old new;
    awaited : (server pending : ℕ) → Has old n (Of server pending) → Names old server Kind.Server → KeepsAwaited (pending ∷ []) old new;
    refused : (server pending : ℕ) → Has old n (Of server pending) → Names old server Kind.Server → IfErr result (λ error. KeepsAwaited [] old new);
    delivered : (server pending : ℕ) → Has old n (Of server pending) → AwaitsNothing old pending → result ≢ Err SendError.UnableToDeliver;
    room : (server pending : ℕ) (answers : List (List P)) → Has old n (Of server pending) → Awaits old pending server answers
        → length answers < old.limits.max_response_buffer_size → result ≢ Err SendError.UnableToDeliver;
    discards : (port request : ℕ) → Has old n (Of port request) → Has old port Discards → result ≢ Err SendError.UnableToDeliver;
    owned : (port request : ℕ) → Has old n (Of port request) → KeepsOwned [] old new;
    few_loans : (port request : ℕ) → Has old n (Of port request) → Owns old port 1 → result ≢ Err (SendError.LoanError LoanError.ExceedsMaxLoans);
    sure : (port request room : ℕ) → Has old n (Of port request) → len ≤ room → Has old n (WholePool room) → Owns old port 1 → Has old port Discards
        → (error : SendError) → result ≢ Err error;
    sure_first : (port request room : ℕ) → Has old n (Of port request) → len ≤ room → Has old n (WholePool room) → Owns old port 1 → AwaitsNothing old request
        → (error : SendError) → result ≢ Err error;
  }

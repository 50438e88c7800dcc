-- What the call of a port tells that loans a message, writes its elements and sends it at once.
use Rattle.std.proofs.Common.{◌≡◌, ◌≢◌, ℕ, List, [], ◌∷◌, None, refl, sym, subst, ⊎_elim, inl, Result, Ok, Err}
use Rattle.rr_protocol.specs.declared.error.LoanError.{LoanError}
use Rattle.rr_protocol.specs.declared.error.RequestSendError.{RequestSendError}
use Rattle.rr_protocol.specs.declared.error.SendError.{SendError}
use Rattle.rr_protocol.specs.declared.kind.Kind.{Kind}
use Rattle.rr_protocol.specs.declared.settings.BackpressureAction.{BackpressureAction}
use Rattle.rr_protocol.specs.Loans.{LoansRequest, LoansResponse}
use Rattle.rr_protocol.specs.Queries.{kind_at}
use Rattle.rr_protocol.specs.Sends.{SendsResponse}
use Rattle.rr_protocol.specs.State.{State}
use Rattle.rr_laws.specs.Apart.{LoansKeepServers}
use Rattle.rr_laws.specs.Reached.{IsReached}
use Rattle.rr_laws.specs.Roles.{roles_of}
use Rattle.rr_laws.specs.Unreduced.{ClientHasPool, ServerHasPool}
use Rattle.rr_hub.specs.Copies.{IsOfCore, SendsRequestAtOnce, SendsResponseAtOnce, with_complete_request, with_complete_response}
use Rattle.rr_ports.specs.Facts.{Names}
use Rattle.rr_ports.specs.Sending.{SendsPending}
use Rattle.rr_ports.proofs.LoanLaws.{request_loaned, response_loaned}
use Rattle.rr_ports.proofs.LoanTold.{RequestLoaned, ResponseLoaned}
use Rattle.rr_ports.proofs.QueueLaws.{awaited_all}
use Rattle.rr_ports.proofs.SendTold.{RequestCopied, ResponseCopied}
use Rattle.rr_ports.proofs.SentLaws.{ok_no_error, request_sent, response_sent}
use Rattle.rr_ports.proofs.SentTells.{request_tells, response_tells}
use Rattle.rr_ports.proofs.WriteLaws.{requests, responses, written}

-- requests
module _ {Q QH P PH K : Type 0} (IsDefault : QH → Type 0) (action : K → ℕ → ℕ → BackpressureAction) (old new : State Q QH P PH K) (n len : ℕ) (elements : List Q)
    (is : Names old n Kind.Client) (reached : IsReached old) where
  -- the loan that is made
  loaned : (mid : State Q QH P PH K) (k : ℕ) → LoansRequest IsDefault old n len (Ok k) mid → kind_at old k ≡ None → RequestLoaned IsDefault old mid n len k
  loaned mid k loans free =
      request_loaned IsDefault old mid n len (Ok k) is reached (record { loans = loans; unnamed = free; unreduced = λ pool. ok_no_error k LoanError.OutOfMemory })

  -- what is told once it is written, and sent or refused
  sent_on : (mid : State Q QH P PH K) (k : ℕ) → LoansRequest IsDefault old n len (Ok k) mid → kind_at old k ≡ None
      → IsOfCore (with_complete_request mid k elements) → (result : Result ℕ RequestSendError)
      → SendsPending action (with_complete_request mid k elements) k result new → RequestCopied IsDefault action old new n len elements result
  sent_on mid k loans free core result sends =
      let whole = with_complete_request mid k elements in
      let loan = loaned mid k loans free in
      let write = written mid whole k requests loan.kind elements refl in
      request_sent IsDefault old mid whole n len k k elements loan write new action result is (request_tells action whole new k core write.kind result sends)

  -- the loan is refused
  of_loan : (a b : LoanError) → ◌≡◌ {A = Result ℕ RequestSendError} (Err (RequestSendError.SendError (SendError.LoanError a))) (Err (RequestSendError.SendError (SendError.LoanError b)))
      → ◌≡◌ {A = Result ℕ LoanError} (Err a) (Err b)
  of_loan a b e = cc

  refused : (loan : LoanError) → LoansRequest IsDefault old n len (Err loan) new → (ClientHasPool old.limits old n len → loan ≢ LoanError.OutOfMemory)
      → RequestCopied IsDefault action old new n len elements (Err (RequestSendError.SendError (SendError.LoanError loan)))
  refused loan loans unreduced =
      let told = request_loaned IsDefault old new n len (Err loan) is reached (record {
        loans = loans;
        unnamed = tt;
        unreduced = λ pool e. unreduced pool (let f : ◌≡◌ {A = Result ℕ LoanError} (Err loan) (Err LoanError.OutOfMemory) = e in cc);
      }) in record {
        sends = inl (loan, refl, loans);
        unreduced = λ pool e. told.unreduced pool (of_loan loan LoanError.OutOfMemory e);
        whole = λ room short has e. told.whole room short has (of_loan loan LoanError.OutOfMemory e);
        free = tt;
        kind = tt;
        says = tt;
        keeps = told.keeps;
        numbers = told.numbers;
        of = tt;
        hears = λ server lives nothing. tt;
        awaits = tt;
        awaited = told.awaited;
        refused = told.heard;
        buffers = λ port room has. tt;
        discards = λ over e. cc;
        owned = told.owned;
        owns = λ most owns. tt;
        owns_err = told.owns_err;
        few_loans = λ most owns below e. told.few_loans most owns below (of_loan loan LoanError.ExceedsMaxLoans e);
        few_active = λ most owns below e. cc;
        sure = λ room short has over owns error e. told.sure room short has owns loan refl;
      }

  -- whichever it was
  pub request_at_once : (result : Result ℕ RequestSendError) → SendsRequestAtOnce IsDefault action old n len elements result new
      → RequestCopied IsDefault action old new n len elements result
  request_at_once (Ok pending) once = sent_on once.0 pending once.1 once.2 once.3 (Ok pending) (refl, once.4)
  request_at_once (Err error) once = ⊎_elim
      (λ r. subst (λ e. RequestCopied IsDefault action old new n len elements (Err e)) (sym r.1) (refused r.0 r.2 r.3))
      (λ s. sent_on s.0 s.1 s.2 s.3 s.4 (Err error) s.5)
      once

-- responses
module _ {Q QH P PH K : Type 0} (IsDefault : PH → Type 0) (action : K → ℕ → ℕ → BackpressureAction) (old new : State Q QH P PH K) (n len : ℕ) (elements : List P)
    (is : Names old n Kind.ActiveRequest) (reached : IsReached old) (keep : LoansKeepServers (roles_of old.handles)) where
  -- the loan that is made
  response_made : (mid : State Q QH P PH K) (k : ℕ) → LoansResponse IsDefault old n len (Ok k) mid → kind_at old k ≡ None
      → ResponseLoaned IsDefault old mid n len k
  response_made mid k loans free =
      response_loaned IsDefault old mid n len (Ok k) is reached keep
      (record { loans = loans; unnamed = free; unreduced = λ pool. ok_no_error k LoanError.OutOfMemory })

  module _ {U : Type 0} where
    -- what is told once it is written, and sent or refused
    response_on : (mid : State Q QH P PH K) (k : ℕ) → LoansResponse IsDefault old n len (Ok k) mid → kind_at old k ≡ None
        → IsOfCore (with_complete_response mid k elements) → (result : Result U SendError)
        → SendsResponse action (with_complete_response mid k elements) k result new → ResponseCopied IsDefault action old new n len elements result
    response_on mid k loans free core result sends =
        let whole = with_complete_response mid k elements in
        let loan = response_made mid k loans free in
        let write = written mid whole k responses loan.kind elements refl in
        response_sent IsDefault old mid whole n len k k elements loan write new action result (response_tells action whole new k core write.kind result sends)

    -- the loan is refused
    of_response_loan : (a b : LoanError) → ◌≡◌ {A = Result U SendError} (Err (SendError.LoanError a)) (Err (SendError.LoanError b))
        → ◌≡◌ {A = Result ℕ LoanError} (Err a) (Err b)
    of_response_loan a b e = cc

    response_refused : (loan : LoanError) → LoansResponse IsDefault old n len (Err loan) new → (ServerHasPool old.limits old n len → loan ≢ LoanError.OutOfMemory)
        → ResponseCopied {U = U} IsDefault action old new n len elements (Err (SendError.LoanError loan))
    response_refused loan loans unreduced =
        let told = response_loaned IsDefault old new n len (Err loan) is reached keep (record {
          loans = loans;
          unnamed = tt;
          unreduced = λ pool e. unreduced pool (let f : ◌≡◌ {A = Result ℕ LoanError} (Err loan) (Err LoanError.OutOfMemory) = e in cc);
        }) in record {
          sends = inl (loan, refl, loans);
          unreduced = λ pool e. told.unreduced pool (of_response_loan loan LoanError.OutOfMemory e);
          whole = λ room short has e. told.whole room short has (of_response_loan loan LoanError.OutOfMemory e);
          keeps = told.keeps;
          numbers = told.numbers;
          first = λ server pending of lives nothing. tt;
          next = λ server pending answers of lives awaits room. tt;
          heard = λ port request of lives. told.heard;
          awaited = λ server pending of lives. awaited_all (pending ∷ []) old new told.awaited;
          refused = λ server pending of lives. told.awaited;
          delivered = λ server pending of nothing e. cc;
          room = λ server pending answers of awaits room e. cc;
          discards = λ port request of over e. cc;
          owned = λ port request of. told.owns_err;
          few_loans = λ port request of owns e. told.few_loans port request of owns (of_response_loan loan LoanError.ExceedsMaxLoans e);
          sure = λ port request room of short has owns over error e. told.sure port request room of short has owns loan refl;
          sure_first = λ port request room of short has owns nothing error e. told.sure port request room of short has owns loan refl;
        }

    -- whichever it was
    pub response_at_once : (result : Result U SendError) → SendsResponseAtOnce IsDefault action old n len elements result new
        → ResponseCopied IsDefault action old new n len elements result
    response_at_once (Ok unit) once = response_on once.0 once.1 once.2 once.3 once.4 (Ok unit) once.5
    response_at_once (Err error) once = ⊎_elim
        (λ r. subst (λ e. ResponseCopied {U = U} IsDefault action old new n len elements (Err e)) (sym r.1) (response_refused r.0 r.2 r.3))
        (λ s. response_on s.0 s.1 s.2 s.3 s.4 (Err error) s.5)
        once

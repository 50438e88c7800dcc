-- No loan from a pool of the worst-case size is refused for want of memory.
use Rattle.std.proofs.Common.{◌≡◌, ℕ, ◌+◌, ◌<◌, ◌≤◌, Bool, true, false, [], ◌∷◌, Option, Some, None, MatchOption, Err, refl, sym, subst, ⊎_elim, inl, inr, arith, option_and_then}
use Rattle.std.specs.Prelude.{◌≢◌, ◌⊎◌, nat_le, not, ◌&&◌, ◌==◌, if◌then◌else◌}
use Rattle.std.specs.Option.{option_map_or}
use Rattle.std.proofs.lemmas.Bool.{leb-true, leb-false}
use Rattle.rr_slots.specs.declared.family.Family.{Family}
use Rattle.rr_protocol.specs.declared.kind.Kind.{Kind}
use Rattle.rr_protocol.specs.declared.settings.BackpressureAction.{BackpressureAction}
use Rattle.rr_protocol.specs.declared.error.LoanError.{LoanError}
use Rattle.rr_protocol.specs.declared.error.LoanError.TheVariants.{OutOfMemory, ExceedsMaxLoans, ExceedsMaxLoanSize}
use Rattle.rr_protocol.specs.declared.error.SendError.{SendError}
use Rattle.rr_protocol.specs.declared.error.RequestSendError.{RequestSendError}
use Rattle.rr_protocol.specs.Limits.{max_loaned_responses}
use Rattle.rr_protocol.specs.Ports.{Port, Client, Server}
use Rattle.rr_protocol.specs.State.{State, client_at, server_at, active_at, numbers_left}
use Rattle.rr_protocol.specs.Counts.{live_requests, live_responses, loaned_requests, loaned_responses, loaned_responses_from, pending_responses}
use Rattle.rr_protocol.specs.Loans.{is_too_long, IsLoanRefusal, LoansRequest, LoansResponse}
use Rattle.rr_protocol.specs.Sends.{is_request_refused, SendsRequest, SendsResponse}
use Rattle.rr_protocol.specs.Queries.{kind_at}
use Rattle.rr_protocol.specs.declared.command.Command.{Command}
use Rattle.rr_protocol.specs.declared.reply.Reply.{Reply}
use Rattle.rr_protocol.specs.Refusals.{has_call, has_length, needs_number, is_incomplete, refusal_of_kind, refusal, number_in}
use Rattle.rr_protocol.specs.Step.{with_complete, Loans, Acts}
use Rattle.rr_laws.specs.Reached.{IsReached}
use Rattle.rr_laws.specs.Unreduced.{asked_in, is_out_of_memory, ClientHasPool, ServerHasPool, HasPool, FindsMemory}
use Rattle.rr_laws.proofs.Opening.{some_and, open_request_mut, open_response_mut}
use Rattle.rr_laws.proofs.RoleLaws.{loaned_requests-roles, loaned_responses-roles}
use Rattle.rr_laws.proofs.LiveRequests.{live_requests_le}
use Rattle.rr_laws.proofs.LiveResponses.{live_responses_le}

-- an error that is due is not want of memory if the last test fails, and none is due for a short slice
no_memory : {K : Type 0} (too_long loans full : Bool) (port : Port K) (len : ℕ) → len ≤ port.initial_max_slice_len
    → (loans ≡ false → full ≡ false) →
    IsLoanRefusal (if too_long then Some ExceedsMaxLoanSize else if loans then Some ExceedsMaxLoans else if full then Some OutOfMemory else
    None) port len OutOfMemory → ⊥
no_memory true loans full port len short room e = absurd (let f : OutOfMemory ≡ ExceedsMaxLoanSize = e in cc)
no_memory false true full port len short room e = absurd (let f : OutOfMemory ≡ ExceedsMaxLoans = e in cc)
no_memory false false true port len short room e = absurd (let f = room refl in cc)
no_memory false false false port len short room e = omega (arith, e.1, short)

-- the same with one more test of loans
no_memory_of_two : {K : Type 0} (too_long each loans full : Bool) (port : Port K) (len : ℕ) → len ≤ port.initial_max_slice_len
    → (loans ≡ false → full ≡ false) →
    IsLoanRefusal (if too_long then Some ExceedsMaxLoanSize else if each then Some ExceedsMaxLoans else if loans then Some ExceedsMaxLoans
    else if full then Some OutOfMemory else None) port len OutOfMemory → ⊥
no_memory_of_two true each loans full port len short room e = absurd (let f : OutOfMemory ≡ ExceedsMaxLoanSize = e in cc)
no_memory_of_two false true loans full port len short room e = absurd (let f : OutOfMemory ≡ ExceedsMaxLoans = e in cc)
no_memory_of_two false false loans full port len short room e = no_memory false loans full port len short room e

not_full : (pool live : ℕ) → live < pool → nat_le pool live ≡ false
not_full pool live h = go (nat_le pool live) refl
  where
    go : (b : Bool) → nat_le pool live ≡ b → nat_le pool live ≡ false
    go true e = absurd (let f = leb-true pool live e in omega arith)
    go false e = e

fewer_requests : (live loans loaned most active rest pool : ℕ) → live ≤ loans + active + rest → loaned ≡ loans → loaned < most
    → pool ≡ most + active + rest → live < pool
fewer_requests live loans loaned most active rest pool a b c d = omega (arith, a, b, c, d)

fewer_responses : (live loans loaned most rest pool : ℕ) → live ≤ loans + rest → loaned ≡ loans → loaned < most → pool ≡ most + rest
    → live < pool
fewer_responses live loans loaned most rest pool a b c d = omega (arith, a, b, c, d)

module _ {Q QH P PH K : Type 0} (s : State Q QH P PH K) (fits : IsReached s) where
  -- no loan of a request from a whole pool is refused for want of memory
  pub request_finds_memory : (IsDefault : QH → Type 0) (n len : ℕ) (new : State Q QH P PH K) → ClientHasPool s.limits s n len →
      LoansRequest IsDefault s n len (Err OutOfMemory) new → ⊥
  request_finds_memory IsDefault n len new pool loans =
      let o = some_and (client_at s n) _ loans in
      let client : Client K = o.0 in
      let whole = pool client o.1 in
      no_memory (is_too_long client.port len) (nat_le s.limits.max_loaned_requests (loaned_requests s client.id))
      (nat_le client.pool_size (live_requests s client.id)) client.port len whole.short
      (λ e. not_full client.pool_size (live_requests s client.id)
      (fewer_requests _ _ (loaned_requests s client.id) s.limits.max_loaned_requests _ _ client.pool_size
      (live_requests_le s fits client.id) (loaned_requests-roles s client.id) (leb-false _ _ e) whole.whole))
      o.2.0

  -- nor one of a response
  pub response_finds_memory : (IsDefault : PH → Type 0) (n len : ℕ) (new : State Q QH P PH K) → ServerHasPool s.limits s n len →
      LoansResponse IsDefault s n len (Err OutOfMemory) new → ⊥
  response_finds_memory IsDefault n len new pool loans =
      let a = some_and (active_at s n) _ loans in
      let o = some_and (server_at s a.0.server) _ a.2 in
      let server : Server K = o.0 in
      let whole = pool a.0 server a.1 o.1 in
      let most = max_loaned_responses s.limits server.max_loaned_responses_per_request in
      no_memory_of_two (is_too_long server.port len) (nat_le server.max_loaned_responses_per_request (loaned_responses_from s n))
      (nat_le most (loaned_responses s server.id))
      (nat_le server.pool_size (live_responses s server.id)) server.port len whole.short
      (λ e. not_full server.pool_size (live_responses s server.id)
      (fewer_responses _ _ (loaned_responses s server.id) most _ server.pool_size (live_responses_le s fits server.id)
      (loaned_responses-roles s server.id) (leb-false _ _ e) whole.whole))
      o.2.0

module _ {T H K : Type 0} (family : Family) (s : State T H T H K) (command : Command T H K) where
  -- no refusal of a runner tells of memory
  kind_refuses : (kind : Kind) (r : Reply T H) → refusal_of_kind family s command kind ≡ Some r → is_out_of_memory r ≡ false
  kind_refuses kind r e = go (not (has_call command kind && has_length family command)) (needs_number command kind && (numbers_left s == 0))
      (is_incomplete s command) e
    where
      go : (wrong numbers incomplete : Bool) → (if wrong then Some Reply.WrongKind else if numbers then Some Reply.NumbersExhausted else if
          incomplete then Some Reply.Incomplete else None) ≡ Some r → is_out_of_memory r ≡ false
      go true numbers incomplete e = subst (λ x. is_out_of_memory x ≡ false) (let f : Reply.WrongKind ≡ r = (cc) in f) refl
      go false true incomplete e = subst (λ x. is_out_of_memory x ≡ false) (let f : Reply.NumbersExhausted ≡ r = (cc) in f) refl
      go false false true e = subst (λ x. is_out_of_memory x ≡ false) (let f : Reply.Incomplete ≡ r = (cc) in f) refl
      go false false false e = absurd (cc)

  -- no refusal in front of a command is want of memory
  pub refuses_otherwise : (r : Reply T H) → refusal family s command ≡ Some r → is_out_of_memory r ≡ false
  refuses_otherwise r e = go (number_in command) e
    where
      at : (k : Option Kind) → option_map_or (refusal_of_kind family s command) k (Some Reply.Unknown) ≡ Some r → is_out_of_memory r ≡ false
      at None e = subst (λ x. is_out_of_memory x ≡ false) (let f : Reply.Unknown ≡ r = (cc) in f) refl
      at (Some kind) e = kind_refuses kind r e

      go : (o : Option ℕ) → option_and_then (λ n. option_map_or (refusal_of_kind family s command) (kind_at s n) (Some Reply.Unknown)) o
          ≡ Some r → is_out_of_memory r ≡ false
      go None e = absurd (cc)
      go (Some n) e = at (kind_at s n) e

module _ {Q QH P PH K : Type 0} where
  -- no refused send tells of memory
  request_send_error : (action : K → ℕ → ℕ → BackpressureAction) (s : State Q QH P PH K) (n : ℕ) (e : RequestSendError)
      (new : State Q QH P PH K) → SendsRequest action s n (Err e) new →
      (e ≡ RequestSendError.ExceedsMaxActiveRequests) ⊎ (e ≡ RequestSendError.SendError SendError.UnableToDeliver)
  request_send_error action s n e new sends =
      let o = open_request_mut s n _ sends in
      go (nat_le s.limits.max_active_requests_per_client (pending_responses s (o.0).id)) (is_request_refused action s o.0 o.1) o.4.0
    where
      go : (many refused : Bool) → (if many then Some RequestSendError.ExceedsMaxActiveRequests else if refused then Some
          (RequestSendError.SendError SendError.UnableToDeliver) else None) ≡ Some e →
          (e ≡ RequestSendError.ExceedsMaxActiveRequests) ⊎ (e ≡ RequestSendError.SendError SendError.UnableToDeliver)
      go true refused f = inl (let g : RequestSendError.ExceedsMaxActiveRequests ≡ e = (cc) in sym g)
      go false true f = inr (let g : RequestSendError.SendError SendError.UnableToDeliver ≡ e = (cc) in sym g)
      go false false f = absurd (cc)

  response_send_error : (action : K → ℕ → ℕ → BackpressureAction) (s : State Q QH P PH K) (n : ℕ) (e : SendError) (new : State Q QH P PH K)
      → SendsResponse {U = ℕ} action s n (Err e) new →
      e ≡ SendError.UnableToDeliver
  response_send_error action s n e new sends = (open_response_mut s n _ sends).4.1

module _ {T H K : Type 0} (action : K → ℕ → ℕ → BackpressureAction) (IsDefaultElement : T → Type 0) (IsDefaultHeader : H → Type 0)
    (family : Family) (s : State T H T H K) (fits : IsReached s) (n len : ℕ) (pool : HasPool s.limits s n len) where
  request_loan_error : (e : LoanError) (new : State T H T H K) → LoansRequest IsDefaultHeader s n len (Err e) new → e ≢ OutOfMemory
  request_loan_error e new loans same = request_finds_memory s fits IsDefaultHeader n len new pool.0
      (subst (λ x. LoansRequest IsDefaultHeader s n len (Err x) new) same loans)

  response_loan_error : (e : LoanError) (new : State T H T H K) → LoansResponse IsDefaultHeader s n len (Err e) new → e ≢ OutOfMemory
  response_loan_error e new loans same = response_finds_memory s fits IsDefaultHeader n len new pool.1
      (subst (λ x. LoansResponse IsDefaultHeader s n len (Err x) new) same loans)

  loan_error : (e : LoanError) (new : State T H T H K) → Loans action IsDefaultElement IsDefaultHeader family s n len (Err e) new
      → e ≢ OutOfMemory
  loan_error e new loans = ⊎_elim (request_loan_error e new) (response_loan_error e new) loans

module _ (T H : Type 0) where
  -- how a reply tells a loan's error
  told : (e : LoanError) → e ≢ OutOfMemory → is_out_of_memory {T = T} {H = H} (Reply.LoanError e) ≡ false
  told OutOfMemory other = absurd (other refl)
  told e other = refl

  told_of_request : (e : LoanError) → e ≢ OutOfMemory → is_out_of_memory {T = T} {H = H}
      (Reply.RequestError (RequestSendError.SendError (SendError.LoanError e))) ≡ false
  told_of_request OutOfMemory other = absurd (other refl)
  told_of_request e other = refl

  told_of_response : (e : LoanError) → e ≢ OutOfMemory → is_out_of_memory {T = T} {H = H} (Reply.SendError (SendError.LoanError e)) ≡ false
  told_of_response OutOfMemory other = absurd (other refl)
  told_of_response e other = refl

module _ {T H K : Type 0} (action : K → ℕ → ℕ → BackpressureAction) (IsDefaultElement : T → Type 0) (IsDefaultHeader : H → Type 0)
    (family : Family) (s : State T H T H K) (fits : IsReached s) where
  request_copy_error : (n : ℕ) (v : T) (e : RequestSendError) (new : State T H T H K) → HasPool s.limits s n 1
      → Acts action IsDefaultElement IsDefaultHeader family s (Command.SendCopy n v) (Reply.RequestError e) new →
      is_out_of_memory {T = T} {H = H} (Reply.RequestError e) ≡ false
  request_copy_error n v e new pool acts =
      ⊎_elim
      (λ loan. subst (λ x. is_out_of_memory {T = T} {H = H} (Reply.RequestError x) ≡ false) (sym loan.2)
      (told_of_request T H loan.0 (request_loan_error action IsDefaultElement IsDefaultHeader family s fits n 1 pool loan.0 new
      loan.1)))
      (λ send. ⊎_elim
      (λ same. subst (λ x. is_out_of_memory {T = T} {H = H} (Reply.RequestError x) ≡ false) (sym same) refl)
      (λ same. subst (λ x. is_out_of_memory {T = T} {H = H} (Reply.RequestError x) ≡ false) (sym same) refl)
      (request_send_error action (with_complete send.0 send.1 (v ∷ [])) send.1 e new send.3))
      acts

  response_copy_error : (n : ℕ) (v : T) (e : SendError) (new : State T H T H K) → HasPool s.limits s n 1
      → Acts action IsDefaultElement IsDefaultHeader family s (Command.SendCopy n v) (Reply.SendError e) new →
      is_out_of_memory {T = T} {H = H} (Reply.SendError e) ≡ false
  response_copy_error n v e new pool acts =
      ⊎_elim
      (λ loan. subst (λ x. is_out_of_memory {T = T} {H = H} (Reply.SendError x) ≡ false) (sym loan.2)
      (told_of_response T H loan.0 (response_loan_error action IsDefaultElement IsDefaultHeader family s fits n 1 pool loan.0 new
      loan.1)))
      (λ send. subst (λ x. is_out_of_memory {T = T} {H = H} (Reply.SendError x) ≡ false)
      (sym (response_send_error action (with_complete send.0 send.1 (v ∷ [])) send.1 e new send.3)) refl)
      acts

  loan_told : (n len : ℕ) → HasPool s.limits s n len → (reply : Reply T H) (new : State T H T H K)
      → Acts action IsDefaultElement IsDefaultHeader family s (Command.Loan n len) reply new → is_out_of_memory reply ≡ false
  loan_told n len pool (Reply.LoanError e) new acts = told T H e
      (loan_error action IsDefaultElement IsDefaultHeader family s fits n len pool e new acts)
  loan_told n len pool (Reply.RequestError e) new acts = absurd acts
  loan_told n len pool (Reply.SendError e) new acts = absurd acts
  loan_told n len pool reply new acts = refl

  default_told : (n len : ℕ) → HasPool s.limits s n len → (reply : Reply T H) (new : State T H T H K)
      → Acts action IsDefaultElement IsDefaultHeader family s (Command.LoanDefault n len) reply new → is_out_of_memory reply ≡ false
  default_told n len pool (Reply.LoanError e) new acts = told T H e
      (loan_error action IsDefaultElement IsDefaultHeader family s fits n len pool e new acts)
  default_told n len pool (Reply.RequestError e) new acts = absurd acts
  default_told n len pool (Reply.SendError e) new acts = absurd acts
  default_told n len pool reply new acts = refl

  copy_told : (n : ℕ) (v : T) → HasPool s.limits s n 1 → (reply : Reply T H) (new : State T H T H K)
      → Acts action IsDefaultElement IsDefaultHeader family s (Command.SendCopy n v) reply new → is_out_of_memory reply ≡ false
  copy_told n v pool (Reply.LoanError e) new acts = absurd acts
  copy_told n v pool (Reply.RequestError e) new acts = request_copy_error n v e new pool acts
  copy_told n v pool (Reply.SendError e) new acts = response_copy_error n v e new pool acts
  copy_told n v pool reply new acts = refl

  pool_of : (n len k l : ℕ) → ◌≡◌ {A = Option (ℕ × ℕ)} (Some (k, l)) (Some (n, len)) → HasPool s.limits s n len → HasPool s.limits s k l
  pool_of n len k l asked pool =
      let both : ◌≡◌ {A = ℕ × ℕ} (k, l) (n, len) = (cc) in
      subst (λ (p : ℕ × ℕ). HasPool s.limits s p.0 p.1) (sym both) pool

  -- what a loan from such a pool is answered
  acts_with_memory : (command : Command T H K) (reply : Reply T H) (new : State T H T H K) (n len : ℕ) → asked_in command ≡ Some (n, len)
      → HasPool s.limits s n len →
      Acts action IsDefaultElement IsDefaultHeader family s command reply new → is_out_of_memory reply ≡ false
  acts_with_memory (Command.Loan k l) reply new n len asked pool acts = loan_told k l (pool_of n len k l asked pool) reply new acts
  acts_with_memory (Command.LoanDefault k l) reply new n len asked pool acts = default_told k l
      (pool_of n len k l asked pool) reply new acts
  acts_with_memory (Command.SendCopy k v) reply new n len asked pool acts = copy_told k v (pool_of n len k 1 asked pool) reply new acts
  acts_with_memory command reply new n len asked pool acts = absurd (let f : ◌≡◌ {A = Option (ℕ × ℕ)} None (Some (n, len)) = asked in cc)

-- no loan from a pool of the worst-case size is refused for want of memory
pub finds_memory : {T H K : Type 0} (IsDefaultElement : T → Type 0) (IsDefaultHeader : H → Type 0) (s : State T H T H K) → IsReached s
    → FindsMemory IsDefaultElement IsDefaultHeader s.limits s
finds_memory {T} {H} {K} IsDefaultElement IsDefaultHeader s fits action family command reply new n len asked pool step = go
    (refusal family s command) refl step
  where
    go : (o : Option (Reply T H)) → refusal family s command ≡ o
        → MatchOption o (Acts action IsDefaultElement IsDefaultHeader family s command reply new) (λ refused. (reply ≡ refused) × (new ≡ s))
        → is_out_of_memory reply ≡ false
    go None is step = acts_with_memory action IsDefaultElement IsDefaultHeader family s fits command reply new n len asked pool step
    go (Some refused) is step = subst (λ r. is_out_of_memory r ≡ false) (sym step.0) (refuses_otherwise family s command refused is)

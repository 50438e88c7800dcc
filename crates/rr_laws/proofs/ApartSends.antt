-- Requests and responses stay apart through loans and sends.
use Rattle.std.proofs.Common.{◌≡◌, ℕ, Bool, true, false, cond, ◌&&◌, [], ◌∷◌, Option, Some, None, Result, Ok, Err, refl, sym, ap, ◌∙◌, subst, ⊎_elim, inl, inr}
use Rattle.std.specs.Prelude.{◌⊎◌, fold, is_some, option_and_then}
use Rattle.std.specs.List.{list_any}
use Rattle.std.specs.Option.{option_map_or}
use Rattle.std.specs.FinMap.{get, insert, remove, entries}
use Rattle.std.proofs.lemmas.Bool.{cases_eq, eq-eqb}
use Rattle.rr_table.proofs.MapLaws.{get-insert_same, get-insert_other}
use Rattle.rr_protocol.specs.declared.settings.BackpressureAction.{BackpressureAction}
use Rattle.rr_protocol.specs.declared.error.LoanError.{LoanError}
use Rattle.rr_protocol.specs.declared.error.RequestSendError.{RequestSendError}
use Rattle.rr_protocol.specs.declared.error.SendError.{SendError}
use Rattle.rr_protocol.specs.Lists.{at, with_at}
use Rattle.rr_protocol.specs.Keys.{ResponseKey}
use Rattle.rr_protocol.specs.Messages.{ResponseMessage, Handle, RequestMutUninit, RequestMut, PendingResponse, ActiveRequest, ResponseMutUninit, ResponseMut, Response, port_of}
use Rattle.rr_protocol.specs.Ports.{Client}
use Rattle.rr_protocol.specs.State.{State, client_at, handle_at, all_handles}
use Rattle.rr_protocol.specs.Counts.{is_alive, holds_channel}
use Rattle.rr_protocol.specs.Loans.{IsFreeChannel, with_loaned_request, LoansRequest, LoansResponse}
use Rattle.rr_protocol.specs.Sends.{put, with_response_put, SendsRequest, SendsResponse}
use Rattle.rr_protocol.specs.Releases.{without_unused_port, without_port_value, after_handle_gone, after_release}
use Rattle.rr_laws.specs.Roles.{Question, Role, LoanedRequest, SentRequest, LoanedResponse, Roles, role_of, roles_of, question_of, answer_of, asking, asking_at}
use Rattle.rr_laws.specs.Reached.{IsReached}
use Rattle.rr_laws.specs.Apart.{ResponsesApart, AreApart, IsApart}
use Rattle.rr_table.proofs.ListFacts.{any-map}
use Rattle.rr_table.proofs.MapFacts.{any_value}
use Rattle.rr_laws.proofs.LiveRequests.{both_true}
use Rattle.rr_laws.proofs.RoleLaws.{role_at, handle_of, roles-insert, roles-remove}
use Rattle.rr_laws.proofs.Opening.{some_and, open_request_mut, open_response_mut, open_active}
use Rattle.rr_laws.proofs.Sending.{response_put_reached}
use Rattle.rr_laws.proofs.Releasing.{handle_gone_reached}
use Rattle.rr_laws.proofs.Apart.{asks_nothing_new_with, asks_nothing_new_without, names_nothing_new_with_next, names_nothing_new_at, names_nothing_new_without, responses_stay_apart, stay_apart, no_fewer}
use Rattle.rr_laws.proofs.ApartResponses.{sent_apart}
use Rattle.rr_laws.proofs.ApartReleases.{after_release_apart, unused_port_apart}

-- the request of a role that was put in, or of one that was there
asked_cases : (roles : Roles) (n k : ℕ) (role : Role) (p : Question) → asking_at (insert roles n role) k ≡ Some p
    → ((k ≡ n) × (asking role ≡ Some p)) ⊎ (asking_at roles k ≡ Some p)
asked_cases roles n k role p e = ⊎_elim
    (λ same. inl (same, sym (ap (option_and_then asking) (get-insert_same roles n role k same)) ∙ e))
    (λ other. inr (sym (ap (option_and_then asking) (get-insert_other roles n role k other)) ∙ e))
    (cases_eq k n)

module _ {Q QH P PH K : Type 0} where
  -- a request that a client still has holds its channel
  holds : (s : State Q QH P PH K) (k : ℕ) (p : Question) → asking_at (roles_of s.handles) k ≡ Some p
      → list_any (holds_channel p.client p.channel) (all_handles s) ≡ true
  holds s k p e = go (get (roles_of s.handles) k) refl e
    where
      this : (h : Handle Q QH P PH) → asking (role_of h) ≡ Some p → holds_channel p.client p.channel h ≡ true
      this (RequestMutUninit m) e = let same : question_of m ≡ p = cc in
          both_true _ _ (eq-eqb m.client p.client (ap (λ (x : Question). x.client) same))
          (eq-eqb m.channel p.channel (ap (λ (x : Question). x.channel) same))
      this (RequestMut m) e = let same : question_of m ≡ p = cc in
          both_true _ _ (eq-eqb m.client p.client (ap (λ (x : Question). x.client) same))
          (eq-eqb m.channel p.channel (ap (λ (x : Question). x.channel) same))
      this (PendingResponse w) e = let same : question_of w.message ≡ p = cc in
          both_true _ _ (eq-eqb w.message.client p.client (ap (λ (x : Question). x.client) same))
          (eq-eqb w.message.channel p.channel (ap (λ (x : Question). x.channel) same))
      this (ActiveRequest a) e = absurd (cc)
      this (ResponseMutUninit m) e = absurd (cc)
      this (ResponseMut m) e = absurd (cc)
      this (Response m) e = absurd (cc)

      go : (o : Option Role) → get (roles_of s.handles) k ≡ o → option_and_then asking o ≡ Some p
          → list_any (holds_channel p.client p.channel) (all_handles s) ≡ true
      go None is e = absurd (cc)
      go (Some role) is e =
          let h = handle_of s.handles k role is in
          any-map (λ (x : ℕ × Handle Q QH P PH). x.1) (holds_channel p.client p.channel) (entries s.handles)
          ∙ any_value (holds_channel p.client p.channel) s.handles k h.0 h.1 (this h.0 (ap asking h.2 ∙ e))

  loaned_request_apart : (s : State Q QH P PH K) (client : Client K) (len channel : ℕ) (header : QH) → IsReached s → IsApart s
      → IsFreeChannel s client channel → IsApart (with_loaned_request s client len channel header)
  loaned_request_apart s client len channel header fits apart free =
      subst (λ r. AreApart r s.responses) (sym (roles-insert s.handles s.next _)) (record {
        channels = λ n k a b ea eb client_same channel_same. ⊎_elim
            (λ here. ⊎_elim
            (λ there. here.0 ∙ sym there.0)
            (λ was. absurd (taken k b was (sym client_same ∙ sym (ap (λ (x : Question). x.client) (same_question here.1)))
            (sym channel_same ∙ sym (ap (λ (x : Question). x.channel) (same_question here.1)))))
            (asked_cases roles s.next k (LoanedRequest q) b eb))
            (λ before. ⊎_elim
            (λ there. absurd (taken n a before (client_same ∙ sym (ap (λ (x : Question). x.client) (same_question there.1)))
            (channel_same ∙ sym (ap (λ (x : Question). x.channel) (same_question there.1)))))
            (λ was. apart.channels n k a b before was client_same channel_same)
            (asked_cases roles s.next k (LoanedRequest q) b eb))
            (asked_cases roles s.next n (LoanedRequest q) a ea);
        responses = responses_stay_apart s.limits roles (insert roles s.next (LoanedRequest q)) s.next s.responses s.responses
            fits.response_lists (names_nothing_new_with_next roles s.next (LoanedRequest q)) (no_fewer s.responses) apart.responses;
      })
    where
      q : Question
      q = record { number = s.next; client = client.id; request_id = client.loans_made; channel = channel }

      roles : Roles
      roles = roles_of s.handles

      same_question : {p : Question} → Some q ≡ Some p → q ≡ p
      same_question {p} e = cc

      taken : (k : ℕ) (p : Question) → asking_at roles k ≡ Some p → p.client ≡ client.id → p.channel ≡ channel → ⊥
      taken k p e a b = absurd (let t : true ≡ false = sym (holds s k p e)
          ∙ ap (λ c. list_any (holds_channel c p.channel) (all_handles s)) a
          ∙ ap (λ c. list_any (holds_channel client.id c) (all_handles s)) b ∙ free.1 in cc)

  -- after a loan of a request, or its refusal
  pub loans_request_apart : (IsDefault : QH → Type 0) (s : State Q QH P PH K) → IsReached s → IsApart s
      → (n len : ℕ) (result : Result ℕ LoanError) (new : State Q QH P PH K) → LoansRequest IsDefault s n len result new → IsApart new
  loans_request_apart IsDefault s fits apart n len (Ok number) new loans =
      let o = some_and (client_at s n) _ loans in
      subst (λ (x : State Q QH P PH K). IsApart x) (sym o.2.2.4) (loaned_request_apart s o.0 len o.2.2.0 o.2.2.1 fits apart o.2.2.2)
  loans_request_apart IsDefault s fits apart n len (Err error) new loans = subst (λ (x : State Q QH P PH K). IsApart x)
      (sym (some_and (client_at s n) _ loans).2.1) apart

  -- one more role under the next number, of no request that its client still has
  pub next_apart : (s : State Q QH P PH K) (h : Handle Q QH P PH) → asking (role_of h) ≡ None → IsReached s → IsApart s
      → AreApart (roles_of (insert s.handles s.next h)) s.responses
  next_apart s h none fits apart =
      let roles = roles_of s.handles in
      subst (λ r. AreApart r s.responses) (sym (roles-insert s.handles s.next h))
      (stay_apart s.limits roles (insert roles s.next (role_of h)) s.next s.responses s.responses fits.response_lists
      (asks_nothing_new_with roles s.next (role_of h) (λ p e. absurd (let f : None ≡ Some p = sym none ∙ e in cc)))
      (names_nothing_new_with_next roles s.next (role_of h)) (no_fewer s.responses) apart)

  -- after a loan of a response, or its refusal
  pub loans_response_apart : (IsDefault : PH → Type 0) (s : State Q QH P PH K) → IsReached s → IsApart s
      → (n len : ℕ) (result : Result ℕ LoanError) (new : State Q QH P PH K) → LoansResponse IsDefault s n len result new → IsApart new
  loans_response_apart IsDefault s fits apart n len (Ok number) new loans =
      subst (λ (x : State Q QH P PH K). IsApart x) (sym (open_active s n _ loans).4.2.2) (next_apart s _ refl fits apart)
  loans_response_apart IsDefault s fits apart n len (Err error) new loans = subst (λ (x : State Q QH P PH K). IsApart x)
      (sym (open_active s n _ loans).4.1) apart

  -- after a request was sent, or refused
  pub sends_request_apart : (action : K → ℕ → ℕ → BackpressureAction) (s : State Q QH P PH K) → IsReached s → IsApart s
      → (n : ℕ) (result : Result ℕ RequestSendError) (new : State Q QH P PH K) →
      SendsRequest action s n result new → IsApart new
  sends_request_apart action s fits apart n (Ok connections) new sends =
      let o = open_request_mut s n _ sends in
      let roles = roles_of s.handles in
      let q = question_of o.1 in
      let here : get roles n ≡ Some (LoanedRequest q) = role_at s.handles n (RequestMut o.1) o.2 in
      subst (λ (x : State Q QH P PH K). IsApart x) (sym o.4.2)
      (subst (λ r. AreApart r s.responses) (sym (roles-insert s.handles n _))
      (stay_apart s.limits roles (insert roles n (SentRequest q)) s.next s.responses s.responses fits.response_lists
      (asks_nothing_new_with roles n (SentRequest q) (λ p e. ap (option_and_then asking) here ∙ e))
      (names_nothing_new_at roles n s.next (LoanedRequest q) (SentRequest q) here) (no_fewer s.responses) apart))
  sends_request_apart action s fits apart n (Err error) new sends = subst (λ (x : State Q QH P PH K). IsApart x)
      (sym (open_request_mut s n _ sends).4.1) (after_release_apart s n fits apart)

  -- a response went to the list that it reaches, and its handle is gone
  response_gone_apart : (s : State Q QH P PH K) → IsReached s → IsApart s → (n : ℕ) (m : ResponseMessage P PH)
      → handle_at s n ≡ Some (ResponseMut m) → AreApart (roles_of (remove s.handles n)) (with_response_put s m)
  response_gone_apart s fits apart n m is = go (is_some (client_at s m.client)) (is_alive s m.request)
    where
      key : ResponseKey
      key = record { server = m.server; client = m.client; channel = m.channel }

      roles : Roles
      roles = roles_of s.handles

      here : get roles n ≡ Some (LoanedResponse (answer_of m))
      here = role_at s.handles n (ResponseMut m) is

      own : m.number ≡ n
      own = (fits.handles n (LoanedResponse (answer_of m)) here).own_number

      plain : AreApart (roles_of (remove s.handles n)) s.responses
      plain = subst (λ r. AreApart r s.responses) (sym (roles-remove s.handles n))
          (stay_apart s.limits roles (remove roles n) s.next s.responses s.responses fits.response_lists (asks_nothing_new_without roles n)
          (names_nothing_new_without roles n s.next) (no_fewer s.responses) apart)

      go : (connected alive : Bool) → AreApart (roles_of (remove s.handles n))
          (fold (λ lists k. with_at lists k (put s.limits.enable_safe_overflow_for_responses s.limits.max_response_buffer_size
          (at lists k) m)) s.responses (cond (connected && alive) (key ∷ []) []))
      go true true = record {
        channels = plain.channels;
        responses = subst (λ r. ResponsesApart r (with_at s.responses key
            (put s.limits.enable_safe_overflow_for_responses s.limits.max_response_buffer_size (at s.responses key) m)))
            (sym (roles-remove s.handles n))
            (subst (λ j. ResponsesApart (remove roles j) (with_at s.responses key
            (put s.limits.enable_safe_overflow_for_responses s.limits.max_response_buffer_size (at s.responses key) m))) own
            (sent_apart s.responses key s.limits.enable_safe_overflow_for_responses s.limits.max_response_buffer_size m roles
            (LoanedResponse (answer_of m)) (ap (get roles) own ∙ here) apart.responses));
      }
      go true false = plain
      go false alive = plain

  -- a release of a handle that is there
  released : (s : State Q QH P PH K) (n : ℕ) (h : Handle Q QH P PH) → handle_at s n ≡ Some h
      → after_release s n ≡ without_unused_port (after_handle_gone (record s { handles = remove s.handles n }) h) (port_of h)
  released s n h e = ap (λ o. option_map_or (λ handle. without_unused_port
      (after_handle_gone (record s { handles = remove s.handles n }) handle) (port_of handle)) o
      (without_unused_port (without_port_value s n) n)) e

  -- after a response was sent, or refused
  pub sends_response_apart : {U : Type 0} (action : K → ℕ → ℕ → BackpressureAction) (s : State Q QH P PH K) → IsReached s → IsApart s
      → (n : ℕ) (result : Result U SendError) (new : State Q QH P PH K) →
      SendsResponse action s n result new → IsApart new
  sends_response_apart action s fits apart n (Ok u) new sends =
      let o = open_response_mut s n _ sends in
      let lists = with_response_put s o.1 in
      let mid : State Q QH P PH K = record s { responses = lists } in
      let mid_fits = response_put_reached s fits n o.1 o.2 in
      subst (λ (x : State Q QH P PH K). IsApart x) (sym (o.4.1 ∙ released mid n (ResponseMut o.1) o.2))
      (unused_port_apart (record mid { handles = remove mid.handles n }) o.1.server
      (handle_gone_reached mid mid_fits n (ResponseMut o.1) o.2) (response_gone_apart s fits apart n o.1 o.2))
  sends_response_apart action s fits apart n (Err error) new sends = subst (λ (x : State Q QH P PH K). IsApart x)
      (sym (open_response_mut s n _ sends).4.2) (after_release_apart s n fits apart)

-- Each call of a port or of a handle keeps messages complete.
use Rattle.std.proofs.Common.{◌≡◌, ℕ, Bool, true, false, cond, not, List, [], ◌∷◌, Option, Some, None, Result, Ok, Err, refl, sym, ap, ◌∙◌, subst}
use Rattle.std.specs.Prelude.{IsSomeAnd, option_and_then}
use Rattle.std.specs.List.{AllByRecursion}
use Rattle.rr_table.proofs.MapLaws.{get-insert_same}
use Rattle.rr_protocol.specs.declared.settings.BackpressureAction.{BackpressureAction}
use Rattle.rr_protocol.specs.declared.error.LoanError.{LoanError}
use Rattle.rr_protocol.specs.declared.error.SendError.{SendError}
use Rattle.rr_protocol.specs.declared.error.RequestSendError.{RequestSendError}
use Rattle.rr_protocol.specs.declared.error.ReceiveError.{ReceiveError}
use Rattle.rr_protocol.specs.Lists.{with_at}
use Rattle.rr_protocol.specs.Keys.{RequestKey, ResponseKey, request_key}
use Rattle.rr_protocol.specs.Messages.{RequestMessage, ResponseMessage, Handle, RequestMutUninit, RequestMut, PendingResponse, ActiveRequest, ResponseMutUninit, ResponseMut, Response, request_in, response_in, response_key}
use Rattle.rr_protocol.specs.Writing.{is_complete, with_element, with_request_content, with_response_content, after_init}
use Rattle.rr_protocol.specs.State.{State, client_at, handle_at, pending_at, with_changed}
use Rattle.rr_protocol.specs.Loans.{LoansRequest, LoansResponse}
use Rattle.rr_protocol.specs.Sends.{request_reach, response_reach, with_response_put, SendsRequest, SendsResponse}
use Rattle.rr_protocol.specs.Receives.{TakesRequest, Skims, ReceivesUnskimmed, ReceivesRequest, TakesResponse, ReceivesResponse}
use Rattle.rr_protocol.proofs.KeyLaws.{request_keys_total, request_keys_exact, response_keys_total, response_keys_exact}
use Rattle.rr_laws.specs.Complete.{HasComplete, MessagesComplete}
use Rattle.rr_laws.proofs.Opening.{some_and, open_request_mut, open_response_mut, open_active}
use Rattle.rr_laws.proofs.Putting.{each_put, shrinks_taken}
use Rattle.rr_laws.proofs.CompleteMessages.{complete_with, complete_requests, complete_responses, pushed_complete, changed_complete}
use Rattle.rr_laws.proofs.CompleteReleases.{after_release_complete}

module _ {Q QH P PH K : Type 0} (s : State Q QH P PH K) (all : MessagesComplete s) where
  -- where nothing changed
  pub same_complete : (new : State Q QH P PH K) → new ≡ s → MessagesComplete new
  same_complete new is = subst (λ (x : State Q QH P PH K). MessagesComplete x) (sym is) all

  -- after a loan of a request, or its refusal
  pub loans_request_complete : (IsDefault : QH → Type 0) (n len : ℕ) (result : Result ℕ LoanError) (new : State Q QH P PH K)
      → LoansRequest IsDefault s n len result new → MessagesComplete new
  loans_request_complete IsDefault n len (Ok number) new loans =
      subst (λ (x : State Q QH P PH K). MessagesComplete x) (sym (some_and (client_at s n) _ loans).2.2.4)
      (complete_with s.handles s.requests s.responses all s.next _ tt)
  loans_request_complete IsDefault n len (Err error) new loans = same_complete new (some_and (client_at s n) _ loans).2.1

  -- after a loan of a response, or its refusal
  pub loans_response_complete : (IsDefault : PH → Type 0) (n len : ℕ) (result : Result ℕ LoanError) (new : State Q QH P PH K)
      → LoansResponse IsDefault s n len result new → MessagesComplete new
  loans_response_complete IsDefault n len (Ok number) new loans =
      subst (λ (x : State Q QH P PH K). MessagesComplete x) (sym (open_active s n _ loans).4.2.2)
      (complete_with s.handles s.requests s.responses all s.next _ tt)
  loans_response_complete IsDefault n len (Err error) new loans = same_complete new (open_active s n _ loans).4.1

  -- after a request was sent, or refused
  pub sends_request_complete : (n : ℕ) (action : K → ℕ → ℕ → BackpressureAction) (result : Result ℕ RequestSendError)
      (new : State Q QH P PH K) → SendsRequest action s n result new → MessagesComplete new
  sends_request_complete n action (Ok connections) new sends =
      let o = open_request_mut s n _ sends in
      let one : is_complete o.1.content ≡ true = all.in_handles n (RequestMut o.1) o.2 in
      subst (λ (x : State Q QH P PH K). MessagesComplete x) (sym o.4.2)
      (complete_with s.handles _ s.responses (record {
        in_handles = all.in_handles;
        in_requests = each_put request_keys_total request_keys_exact (λ m. is_complete m.content ≡ true)
            s.limits.enable_safe_overflow_for_requests s.limits.max_active_requests_per_client o.1 one (request_reach s o.1) s.requests
            all.in_requests;
        in_responses = all.in_responses;
      }) n _ one)
  sends_request_complete n action (Err error) new sends =
      subst (λ (x : State Q QH P PH K). MessagesComplete x) (sym (open_request_mut s n _ sends).4.1) (after_release_complete s n all)

  -- after a response was sent, or refused
  pub sends_response_complete : {U : Type 0} (n : ℕ) (action : K → ℕ → ℕ → BackpressureAction) (result : Result U SendError)
      (new : State Q QH P PH K) → SendsResponse action s n result new → MessagesComplete new
  sends_response_complete n action (Ok u) new sends =
      let o = open_response_mut s n _ sends in
      subst (λ (x : State Q QH P PH K). MessagesComplete x) (sym o.4.1)
      (after_release_complete (record s { responses = with_response_put s o.1 }) n (record {
        in_handles = all.in_handles;
        in_requests = all.in_requests;
        in_responses = each_put response_keys_total response_keys_exact (λ m. is_complete m.content ≡ true)
            s.limits.enable_safe_overflow_for_responses s.limits.max_response_buffer_size o.1 (all.in_handles n (ResponseMut o.1) o.2)
            (response_reach s o.1) s.responses all.in_responses;
      }))
  sends_response_complete n action (Err error) new sends =
      subst (λ (x : State Q QH P PH K). MessagesComplete x) (sym (open_response_mut s n _ sends).4.2) (after_release_complete s n all)

  -- after the first request left a list
  takes_request_complete : (key : RequestKey) (m : RequestMessage Q QH) (new : State Q QH P PH K) → TakesRequest s key m new
      → MessagesComplete new × (is_complete m.content ≡ true)
  takes_request_complete key m new takes =
      let rest = takes.1.0 in (
        subst (λ (x : State Q QH P PH K). MessagesComplete x) (sym takes.1.2)
            (complete_requests s.handles s.requests s.responses all (with_at s.requests key rest)
            (shrinks_taken request_keys_total request_keys_exact s.requests key m rest takes.1.1)),
        (subst (AllByRecursion (λ x. is_complete x.content ≡ true)) takes.1.1 (all.in_requests key)).0,
      )

  -- after the first response did
  takes_response_complete : (key : ResponseKey) (m : ResponseMessage P PH) (new : State Q QH P PH K) → TakesResponse s key m new
      → MessagesComplete new × (is_complete m.content ≡ true)
  takes_response_complete key m new takes =
      let rest = takes.1.0 in (
        subst (λ (x : State Q QH P PH K). MessagesComplete x) (sym takes.1.2)
            (complete_responses s.handles s.requests s.responses all (with_at s.responses key rest)
            (shrinks_taken response_keys_total response_keys_exact s.responses key m rest takes.1.1)),
        (subst (AllByRecursion (λ x. is_complete x.content ≡ true)) takes.1.1 (all.in_responses key)).0,
      )

  unskimmed_complete : (server : ℕ) (result : Result (Option ℕ) ReceiveError) (new : State Q QH P PH K)
      → ReceivesUnskimmed s server result new → MessagesComplete new
  unskimmed_complete server (Ok (Some number)) new receives =
      let r = receives.1 in
      let taken = takes_request_complete (request_key r.0 server) r.1 r.2 r.3 in
      subst (λ (x : State Q QH P PH K). MessagesComplete x) (sym r.5)
      (complete_with r.2.handles r.2.requests r.2.responses taken.0 r.2.next _ taken.1)
  unskimmed_complete server (Ok None) new receives = same_complete new receives.1
  unskimmed_complete server (Err ReceiveError.ExceedsMaxBorrows) new receives = same_complete new receives.2
  unskimmed_complete server (Err (ReceiveError.ConnectionFailure failure)) new receives = absurd receives

  -- after a pending response received, or could not
  pub receives_response_complete : (n : ℕ) (result : Result (Option ℕ) ReceiveError) (new : State Q QH P PH K)
      → ReceivesResponse s n result new → MessagesComplete new
  receives_response_complete n (Ok (Some number)) new receives =
      let o = some_and (pending_at s n) _ receives in
      let r = o.2 in
      let taken = takes_response_complete (response_key o.0 r.0) r.1 r.2 r.3 in
      subst (λ (x : State Q QH P PH K). MessagesComplete x) (sym r.5)
      (complete_with r.2.handles r.2.requests r.2.responses taken.0 number _ taken.1)
  receives_response_complete n (Ok None) new receives = same_complete new (some_and (pending_at s n) _ receives).2.1
  receives_response_complete n (Err ReceiveError.ExceedsMaxBorrows) new receives =
      same_complete new (some_and (pending_at s n) _ receives).2.2
  receives_response_complete n (Err (ReceiveError.ConnectionFailure failure)) new receives = absurd receives

module _ {Q QH P PH K : Type 0} where
  -- after dead requests left the fronts of lists
  pub skims_complete : (clients : List ℕ) (s : State Q QH P PH K) → MessagesComplete s → (server : ℕ) (new : State Q QH P PH K)
      → Skims s server clients new → MessagesComplete new
  skims_complete [] s all server new skims = same_complete s all new skims
  skims_complete (client ∷ clients) s all server new skims =
      skims_complete clients skims.1 (takes_request_complete s all (request_key client server) skims.0 skims.1 skims.3).0 server new
      skims.4

  -- after a server received, or could not
  pub receives_request_complete : (s : State Q QH P PH K) → MessagesComplete s → (n : ℕ) (result : Result (Option ℕ) ReceiveError)
      (new : State Q QH P PH K) → ReceivesRequest s n result new → MessagesComplete new
  receives_request_complete s all n result new receives =
      let r = receives.1 in
      unskimmed_complete r.1 (skims_complete r.0 s all n r.1 r.2) n result new r.3

  -- the request that was loaned stands under its number, with the length that was asked for
  pub loaned_request : (s : State Q QH P PH K) (IsDefault : QH → Type 0) (n len number : ℕ) (new : State Q QH P PH K)
      → LoansRequest IsDefault s n len (Ok number) new
      → (m : RequestMessage Q QH) × (handle_at new number ≡ Some (RequestMutUninit m)) × (m.content.asked_len ≡ len)
  loaned_request s IsDefault n len number new loans =
      let o = some_and (client_at s n) _ loans in (
        _,
        ap (λ (x : State Q QH P PH K). handle_at x number) o.2.2.4 ∙ get-insert_same s.handles s.next _ number o.2.1,
        refl,
      )

  -- so does the response
  pub loaned_response : (s : State Q QH P PH K) (IsDefault : PH → Type 0) (n len number : ℕ) (new : State Q QH P PH K)
      → LoansResponse IsDefault s n len (Ok number) new
      → (m : ResponseMessage P PH) × (handle_at new number ≡ Some (ResponseMutUninit m)) × (m.content.asked_len ≡ len)
  loaned_response s IsDefault n len number new loans =
      let o = open_active s n _ loans in (
        _,
        ap (λ (x : State Q QH P PH K). handle_at x number) o.4.2.2 ∙ get-insert_same s.handles s.next _ number o.4.1,
        refl,
      )

-- what is not so, where it is so that it is not
pub denied : (a b : Bool) → a ≡ not b → a ≡ true → b ≡ false
denied a true e h = absurd (let f : true ≡ false = sym h ∙ e in cc)
denied a false e h = refl

module _ {Q QH P PH : Type 0} where
  -- one more element of a request that was not complete
  appended_request : (element : Q) (h : Handle Q QH P PH) (m : RequestMessage Q QH) → request_in h ≡ Some m
      → is_complete m.content ≡ false → HasComplete h → HasComplete (with_request_content (with_element element) h)
  appended_request element (RequestMutUninit x) m is fresh e = e
  appended_request element (RequestMut x) m is fresh e = absurd (let same : x ≡ m = (cc) in
      let t : true ≡ false = sym e ∙ ap (λ (y : RequestMessage Q QH). is_complete y.content) same ∙ fresh in cc)
  appended_request element (PendingResponse p) m is fresh e = e
  appended_request element (ActiveRequest a) m is fresh e = e
  appended_request element (ResponseMutUninit x) m is fresh e = e
  appended_request element (ResponseMut x) m is fresh e = e
  appended_request element (Response x) m is fresh e = e

  -- or of such a response
  appended_response : (element : P) (h : Handle Q QH P PH) (m : ResponseMessage P PH) → response_in h ≡ Some m
      → is_complete m.content ≡ false → HasComplete h → HasComplete (with_response_content (with_element element) h)
  appended_response element (RequestMutUninit x) m is fresh e = e
  appended_response element (RequestMut x) m is fresh e = e
  appended_response element (PendingResponse p) m is fresh e = e
  appended_response element (ActiveRequest a) m is fresh e = e
  appended_response element (ResponseMutUninit x) m is fresh e = e
  appended_response element (ResponseMut x) m is fresh e = absurd (let same : x ≡ m = (cc) in
      let t : true ≡ false = sym e ∙ ap (λ (y : ResponseMessage P PH). is_complete y.content) same ∙ fresh in cc)
  appended_response element (Response x) m is fresh e = e

  -- a message that is complete, wherever it is on loan and was not taken as such
  abbrev pub IsReadyToInit : Handle Q QH P PH → Type 0
  IsReadyToInit h =
      ((m : RequestMessage Q QH) → h ≡ RequestMutUninit m → is_complete m.content ≡ true)
      × ((m : ResponseMessage P PH) → h ≡ ResponseMutUninit m → is_complete m.content ≡ true)

  -- it is taken as complete
  pub initialised_complete : (h : Handle Q QH P PH) → IsReadyToInit h → HasComplete h → HasComplete (after_init h)
  initialised_complete (RequestMutUninit m) ready e = ready.0 m refl
  initialised_complete (RequestMut m) ready e = e
  initialised_complete (PendingResponse p) ready e = e
  initialised_complete (ActiveRequest a) ready e = e
  initialised_complete (ResponseMutUninit m) ready e = ready.1 m refl
  initialised_complete (ResponseMut m) ready e = e
  initialised_complete (Response m) ready e = e

module _ {Q QH P PH K : Type 0} (s : State Q QH P PH K) (all : MessagesComplete s) (n : ℕ) where
  -- an element was appended to a request, or the request was complete
  pub push_request_complete : (element : Q) (pushed : Bool) (new : State Q QH P PH K)
      → IsSomeAnd (option_and_then request_in (handle_at s n)) (λ m. (pushed ≡ not (is_complete m.content))
      × (new ≡ cond pushed (with_changed s n (with_request_content (with_element element))) s)) → MessagesComplete new
  push_request_complete element pushed new seen =
      let o = some_and (option_and_then request_in (handle_at s n)) _ seen in
      pushed_complete s n (with_request_content (with_element element)) pushed new o.2.1
      (λ h e c is. appended_request element h o.0 (sym (ap (option_and_then request_in) e) ∙ o.1)
      (denied pushed (is_complete o.0.content) o.2.0 is) c) all

  -- or to a response
  pub push_response_complete : (element : P) (pushed : Bool) (new : State Q QH P PH K)
      → IsSomeAnd (option_and_then response_in (handle_at s n)) (λ m. (pushed ≡ not (is_complete m.content))
      × (new ≡ cond pushed (with_changed s n (with_response_content (with_element element))) s)) → MessagesComplete new
  push_response_complete element pushed new seen =
      let o = some_and (option_and_then response_in (handle_at s n)) _ seen in
      pushed_complete s n (with_response_content (with_element element)) pushed new o.2.1
      (λ h e c is. appended_response element h o.0 (sym (ap (option_and_then response_in) e) ∙ o.1)
      (denied pushed (is_complete o.0.content) o.2.0 is) c) all

  -- a complete message was taken as complete
  pub init_complete : ((h : Handle Q QH P PH) → handle_at s n ≡ Some h → IsReadyToInit h) → MessagesComplete (with_changed s n after_init)
  init_complete ready = changed_complete s n after_init (λ h e c. initialised_complete h (ready h e) c) all

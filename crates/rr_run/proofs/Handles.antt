-- Which numbers name handles after a step: those that did before, and the one that the reply gives.
use Rattle.std.proofs.Common.{◌≡◌, ◌≢◌, ℕ, Bool, true, false, cond, List, [], ◌∷◌, map, Option, Some, None, option_map, Result, Ok, Err, refl, sym, ap, ◌∙◌, subst, ⊎_elim}
use Rattle.std.specs.Prelude.{fold, is_some}
use Rattle.std.specs.Option.{option_map_or}
use Rattle.std.specs.FinMap as fin_map
use Rattle.std.specs.FinMap.{get}
use Rattle.std.proofs.lemmas.Bool.{cases_eq}
use Rattle.rr_table.proofs.MapLaws.{get-insert_other, get-remove_other, get-remove_same}
use Rattle.rr_protocol.specs.declared.settings.BackpressureAction.{BackpressureAction}
use Rattle.rr_protocol.specs.declared.settings.ClientSettings.{ClientSettings}
use Rattle.rr_protocol.specs.declared.settings.ServerSettings.{ServerSettings}
use Rattle.rr_protocol.specs.declared.error.ClientCreateError.{ClientCreateError}
use Rattle.rr_protocol.specs.declared.error.ServerCreateError.{ServerCreateError}
use Rattle.rr_protocol.specs.declared.error.LoanError.{LoanError}
use Rattle.rr_protocol.specs.declared.error.ReceiveError.{ReceiveError}
use Rattle.rr_protocol.specs.declared.error.RequestSendError.{RequestSendError}
use Rattle.rr_protocol.specs.declared.error.SendError.{SendError}
use Rattle.rr_protocol.specs.Messages.{Handle, RequestMutUninit, RequestMut, PendingResponse, ActiveRequest, ResponseMutUninit, ResponseMut, Response, port_of}
use Rattle.rr_protocol.specs.Creation.{CreatesClient, CreatesServer}
use Rattle.rr_protocol.specs.State.{State, client_at, handle_at, pending_at, with_changed}
use Rattle.rr_protocol.specs.Counts.{is_in_use}
use Rattle.rr_protocol.specs.Loans.{LoansRequest, LoansResponse}
use Rattle.rr_protocol.specs.Sends.{SendsRequest, SendsResponse, with_response_put}
use Rattle.rr_protocol.specs.Receives.{Skims, ReceivesUnskimmed, ReceivesRequest, ReceivesResponse}
use Rattle.rr_protocol.specs.Releases.{with_expired_server, after_client_left, after_server_left, without_server, without_unused_port, without_port_value, after_handle_gone, after_release}
use Rattle.rr_protocol.proofs.HandleLaws.{get-map_handles}
use Rattle.rr_laws.proofs.ApartReleases.{clients_handles, servers_handles}
use Rattle.rr_laws.proofs.Opening.{some_and, open_request_mut, open_response_mut, open_active}

-- the number that a result gives
abbrev pub number_given : {E : Type 0} → Result ℕ E → Option ℕ
number_given (Ok n) = Some n
number_given (Err e) = None

-- the number of what was received
abbrev pub number_received : {E : Type 0} → Result (Option ℕ) E → Option ℕ
number_received (Ok o) = o
number_received (Err e) = None

module _ {Q QH P PH K : Type 0} where
  -- no number names a handle that named none
  abbrev pub Fewer : State Q QH P PH K → State Q QH P PH K → Type 0
  Fewer old new = (k : ℕ) → handle_at old k ≡ None → handle_at new k ≡ None

  -- nor does one but this
  abbrev pub Gains : Option ℕ → State Q QH P PH K → State Q QH P PH K → Type 0
  Gains given old new = (k : ℕ) → given ≢ Some k → handle_at old k ≡ None → handle_at new k ≡ None

  pub moved : (old mid new : State Q QH P PH K) → new ≡ mid → Fewer old mid → Fewer old new
  moved old mid new e fewer = subst (λ (x : State Q QH P PH K). Fewer old x) (sym e) fewer

  pub either : (b : Bool) (x y s : State Q QH P PH K) → Fewer s x → Fewer s y → Fewer s (cond b x y)
  either true x y s e f = e
  either false x y s e f = f

  -- another handle under a number that named one
  put_there : (s : State Q QH P PH K) (n : ℕ) (h other : Handle Q QH P PH) → handle_at s n ≡ Some h
      → (k : ℕ) → handle_at s k ≡ None → get (fin_map.insert s.handles n other) k ≡ None
  put_there s n h other at k none =
      get-insert_other s.handles n other k (λ is. let f : None ≡ Some h = sym none ∙ ap (get s.handles) is ∙ at in absurd (cc)) ∙ none

  pub changed : (s : State Q QH P PH K) (n : ℕ) (change : Handle Q QH P PH → Handle Q QH P PH) → Fewer s (with_changed s n change)
  changed s n change k none = go (handle_at s n) refl
    where
      go : (o : Option (Handle Q QH P PH)) → handle_at s n ≡ o
          → get (option_map_or (λ handle. fin_map.insert s.handles n (change handle)) o s.handles) k ≡ None
      go None e = none
      go (Some h) e = put_there s n h (change h) e k none

  unused_port : (s : State Q QH P PH K) (port : ℕ) → Fewer s (without_unused_port s port)
  unused_port s port =
      either (is_in_use s port) s _ s (λ j is. is)
      (either (is_some (client_at s port)) (after_client_left s port) (after_server_left s port) s
      (λ k none. ap (λ m. get m k) (clients_handles port (map (λ c. c.id) s.servers) s) ∙ none)
      (λ k none. get-map_handles (without_server port) (fold (with_expired_server port) s (map (λ c. c.id) s.clients)).handles k
      ∙ ap (λ m. option_map (without_server port) (get m k)) (servers_handles port (map (λ c. c.id) s.clients) s)
      ∙ ap (option_map (without_server port)) none))

  handle_gone : (s : State Q QH P PH K) (h : Handle Q QH P PH) → Fewer s (after_handle_gone s h)
  handle_gone s (RequestMutUninit m) = λ k none. none
  handle_gone s (RequestMut m) = λ k none. none
  handle_gone s (PendingResponse p) = λ k none. none
  handle_gone s (ActiveRequest a) = changed s a.message.number (without_server a.server)
  handle_gone s (ResponseMutUninit m) = λ k none. none
  handle_gone s (ResponseMut m) = λ k none. none
  handle_gone s (Response m) = λ k none. none

  -- after a handle was taken out, what goes with it and perhaps its port
  taken : (s : State Q QH P PH K) (n : ℕ) (h : Handle Q QH P PH)
      → Fewer (record s { handles = fin_map.remove s.handles n })
      (without_unused_port (after_handle_gone (record s { handles = fin_map.remove s.handles n }) h) (port_of h))
  taken s n h k none =
      let rest : State Q QH P PH K = record s { handles = fin_map.remove s.handles n } in
      unused_port (after_handle_gone rest h) (port_of h) k (handle_gone rest h k none)

  pub released : (s : State Q QH P PH K) (n : ℕ) → Fewer s (after_release s n)
  released s n k none = go (handle_at s n)
    where
      go : (o : Option (Handle Q QH P PH)) → handle_at (option_map_or
          (λ handle. without_unused_port (after_handle_gone (record s { handles = fin_map.remove s.handles n }) handle) (port_of handle)) o
          (without_unused_port (without_port_value s n) n)) k ≡ None
      go None = unused_port (without_port_value s n) n k none
      go (Some h) = taken s n h k (⊎_elim
          (λ is. get-remove_same s.handles n k is)
          (λ other. get-remove_other s.handles n k other ∙ none)
          (cases_eq k n))

  -- what is released names no handle then
  pub released_gone : (s : State Q QH P PH K) (n : ℕ) → handle_at (after_release s n) n ≡ None
  released_gone s n = go (handle_at s n) refl
    where
      go : (o : Option (Handle Q QH P PH)) → handle_at s n ≡ o → handle_at (after_release s n) n ≡ None
      go None e = released s n n e
      go (Some h) e =
          ap (λ o. handle_at (option_map_or
          (λ handle. without_unused_port (after_handle_gone (record s { handles = fin_map.remove s.handles n }) handle) (port_of handle)) o
          (without_unused_port (without_port_value s n) n)) n) e
          ∙ taken s n h n (get-remove_same s.handles n n refl)

  pub creates_client : (s : State Q QH P PH K) (settings : ClientSettings K) (result : Result ℕ ClientCreateError) (new : State Q QH P PH K)
      → CreatesClient s settings result new → Fewer s new
  creates_client s settings (Ok number) new made = moved s _ new made.2 (λ j is. is)
  creates_client s settings (Err error) new made = moved s s new made.1 (λ j is. is)

  pub creates_server : (s : State Q QH P PH K) (settings : ServerSettings K) (result : Result ℕ ServerCreateError) (new : State Q QH P PH K)
      → CreatesServer s settings result new → Fewer s new
  creates_server s settings (Ok number) new made = moved s _ new made.2 (λ j is. is)
  creates_server s settings (Err error) new made = moved s s new made.1 (λ j is. is)

  pub loans_request : (IsDefault : QH → Type 0) (s : State Q QH P PH K) (n len : ℕ) (result : Result ℕ LoanError) (new : State Q QH P PH K)
      → LoansRequest IsDefault s n len result new → Gains (number_given result) s new
  loans_request IsDefault s n len (Ok number) new loans k other none =
      let o = some_and (client_at s n) _ loans in
      ap (λ (x : State Q QH P PH K). handle_at x k) o.2.2.4
      ∙ get-insert_other s.handles s.next _ k (λ is. other (ap Some (o.2.1 ∙ sym is))) ∙ none
  loans_request IsDefault s n len (Err error) new loans k other none =
      ap (λ (x : State Q QH P PH K). handle_at x k) (some_and (client_at s n) _ loans).2.1 ∙ none

  pub loans_response : (IsDefault : PH → Type 0) (s : State Q QH P PH K) (n len : ℕ) (result : Result ℕ LoanError) (new : State Q QH P PH K)
      → LoansResponse IsDefault s n len result new → Gains (number_given result) s new
  loans_response IsDefault s n len (Ok number) new loans k other none =
      let o = open_active s n _ loans in
      ap (λ (x : State Q QH P PH K). handle_at x k) o.4.2.2
      ∙ get-insert_other s.handles s.next _ k (λ is. other (ap Some (o.4.1 ∙ sym is))) ∙ none
  loans_response IsDefault s n len (Err error) new loans k other none =
      ap (λ (x : State Q QH P PH K). handle_at x k) (open_active s n _ loans).4.1 ∙ none

  pub sends_request : (action : K → ℕ → ℕ → BackpressureAction) (s : State Q QH P PH K) (n : ℕ) (result : Result ℕ RequestSendError)
      (new : State Q QH P PH K) → SendsRequest action s n result new → Fewer s new
  sends_request action s n (Ok connections) new sends k none =
      let o = open_request_mut s n _ sends in
      ap (λ (x : State Q QH P PH K). handle_at x k) o.4.2 ∙ put_there s n _ _ o.2 k none
  sends_request action s n (Err error) new sends k none = moved s _ new (open_request_mut s n _ sends).4.1 (released s n) k none

  -- a request that isn't sent is gone
  pub unsent_gone : (action : K → ℕ → ℕ → BackpressureAction) (s : State Q QH P PH K) (n : ℕ) (error : RequestSendError)
      (new : State Q QH P PH K) → SendsRequest action s n (Err error) new → handle_at new n ≡ None
  unsent_gone action s n error new sends =
      let o = open_request_mut s n _ sends in
      ap (λ (x : State Q QH P PH K). handle_at x n) o.4.1 ∙ released_gone s n

  pub sends_response : {U : Type 0} (action : K → ℕ → ℕ → BackpressureAction) (s : State Q QH P PH K) (n : ℕ) (result : Result U SendError)
      (new : State Q QH P PH K) → SendsResponse action s n result new → Fewer s new
  sends_response action s n (Ok u) new sends =
      let o = open_response_mut s n _ sends in
      moved s _ new o.4.1 (released (record s { responses = with_response_put s o.1 }) n)
  sends_response action s n (Err error) new sends = moved s _ new (open_response_mut s n _ sends).4.2 (released s n)

  -- a response is gone once it was sent, or wasn't
  pub response_gone : {U : Type 0} (action : K → ℕ → ℕ → BackpressureAction) (s : State Q QH P PH K) (n : ℕ) (result : Result U SendError)
      (new : State Q QH P PH K) → SendsResponse action s n result new → handle_at new n ≡ None
  response_gone action s n (Ok u) new sends =
      let o = open_response_mut s n _ sends in
      ap (λ (x : State Q QH P PH K). handle_at x n) o.4.1 ∙ released_gone (record s { responses = with_response_put s o.1 }) n
  response_gone action s n (Err error) new sends =
      let o = open_response_mut s n _ sends in
      ap (λ (x : State Q QH P PH K). handle_at x n) o.4.2 ∙ released_gone s n

  skims : (clients : List ℕ) (s : State Q QH P PH K) (server : ℕ) (new : State Q QH P PH K) → Skims s server clients new → Fewer s new
  skims [] s server new h k none = moved s s new h (λ j is. is) k none
  skims (client ∷ clients) s server new h k none =
      skims clients h.1 server new h.4 k (moved s _ h.1 h.3.1.2 (λ j is. is) k none)

  unskimmed : (s : State Q QH P PH K) (server : ℕ) (result : Result (Option ℕ) ReceiveError) (new : State Q QH P PH K)
      → ReceivesUnskimmed s server result new → Gains (number_received result) s new
  unskimmed s server (Ok (Some number)) new h k other none =
      let mid : State Q QH P PH K = h.1.2 in
      ap (λ (x : State Q QH P PH K). handle_at x k) h.1.5
      ∙ get-insert_other mid.handles mid.next _ k (λ is. other (ap Some (h.0 ∙ sym (ap (λ (x : State Q QH P PH K). x.next) h.1.3.1.2) ∙ sym is)))
      ∙ moved s _ mid h.1.3.1.2 (λ j is. is) k none
  unskimmed s server (Ok None) new h k other none = moved s s new h.1 (λ j is. is) k none
  unskimmed s server (Err ReceiveError.ExceedsMaxBorrows) new h k other none = moved s s new h.2 (λ j is. is) k none
  unskimmed s server (Err (ReceiveError.ConnectionFailure failure)) new h k other none = absurd h

  pub receives_request : (s : State Q QH P PH K) (n : ℕ) (result : Result (Option ℕ) ReceiveError) (new : State Q QH P PH K)
      → ReceivesRequest s n result new → Gains (number_received result) s new
  receives_request s n result new h k other none = unskimmed h.1.1 n result new h.1.3 k other (skims h.1.0 s n h.1.1 h.1.2 k none)

  pub receives_response : (s : State Q QH P PH K) (n : ℕ) (result : Result (Option ℕ) ReceiveError) (new : State Q QH P PH K)
      → ReceivesResponse s n result new → Gains (number_received result) s new
  receives_response s n (Ok (Some number)) new h k other none =
      let r = (some_and (pending_at s n) _ h).2 in
      let mid : State Q QH P PH K = r.2 in
      ap (λ (x : State Q QH P PH K). handle_at x k) r.5
      ∙ get-insert_other mid.handles number _ k (λ is. other (ap Some (sym is))) ∙ moved s _ mid r.3.1.2 (λ j is. is) k none
  receives_response s n (Ok None) new h k other none = moved s s new (some_and (pending_at s n) _ h).2.1 (λ j is. is) k none
  receives_response s n (Err ReceiveError.ExceedsMaxBorrows) new h k other none =
      moved s s new (some_and (pending_at s n) _ h).2.2 (λ j is. is) k none
  receives_response s n (Err (ReceiveError.ConnectionFailure failure)) new h k other none = absurd h

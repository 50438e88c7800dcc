-- Lists of senders that left fit through releases, loans, sends and receives.
use Rattle.std.proofs.Common.{◌≡◌, ℕ, ◌+◌, Bool, true, not, eqb, ◌&&◌, List, [], ◌∷◌, map, Option, Some, None, Result, Ok, Err, refl, sym, ap, ◌∙◌, subst}
use Rattle.std.specs.Prelude.{◌||◌, filter, nat_eq}
use Rattle.std.specs.List.{IsDistinct}
use Rattle.std.specs.Option.{option_map_or}
use Rattle.std.specs.FinMap as fin_map
use Rattle.std.specs.FinMap.{FinMap, remove}
use Rattle.std.specs.Ordering.{nat_cmp}
use Rattle.std.proofs.lemmas.Bool.{ne_eqb}
use Rattle.rr_protocol.specs.declared.settings.BackpressureAction.{BackpressureAction}
use Rattle.rr_protocol.specs.declared.error.LoanError.{LoanError}
use Rattle.rr_protocol.specs.declared.error.RequestSendError.{RequestSendError}
use Rattle.rr_protocol.specs.declared.error.SendError.{SendError}
use Rattle.rr_protocol.specs.declared.error.ReceiveError.{ReceiveError}
use Rattle.rr_protocol.specs.Lists.{at, with_at}
use Rattle.rr_protocol.specs.Keys.{RequestKey, ResponseKey, request_key}
use Rattle.rr_protocol.specs.Messages.{RequestMessage, ResponseMessage, Handle, RequestMutUninit, RequestMut, PendingResponse, ActiveRequest, ResponseMutUninit, ResponseMut, Response, response_key, port_of}
use Rattle.rr_protocol.specs.Ports.{Client, Server}
use Rattle.rr_protocol.specs.State.{State, client_at, handle_at, pending_at}
use Rattle.rr_protocol.specs.Loans.{with_loan_counted, LoansRequest, LoansResponse}
use Rattle.rr_protocol.specs.Sends.{request_reach, response_reach, with_response_put, with_sent_request, SendsRequest, SendsResponse}
use Rattle.rr_protocol.specs.Receives.{TakesRequest, TakesResponse, Skims, ReceivesUnskimmed, ReceivesRequest, ReceivesResponse}
use Rattle.rr_protocol.specs.Releases.{has_responses_from, has_requests_from, without_empty_servers, without_empty_clients, without_unused_port, without_port_value, without_value, with_empty_channel, after_handle_gone, after_release}
use Rattle.rr_protocol.proofs.KeyLaws.{request_keys_total, request_keys_exact, response_keys_total, response_keys_exact}
use Rattle.rr_laws.specs.Roles.{Role, LoanedRequest, SentRequest, ReceivedRequest, LoanedResponse, ReceivedResponse, role_of}
use Rattle.rr_laws.specs.Reached.{has_client, has_server, is_port, has_port, IsReached}
use Rattle.rr_laws.specs.Left.{IsLeftFit}
use Rattle.rr_laws.specs.Expired.{ExpiredFit}
use Rattle.rr_table.proofs.ListFacts.{or_true}
use Rattle.rr_laws.proofs.RoleLaws.{role_at}
use Rattle.rr_laws.proofs.Opening.{some_and, open_request_mut, open_response_mut, open_active}
use Rattle.rr_laws.proofs.Connected.{has-same, port_number}
use Rattle.rr_laws.proofs.Loaning.{counted_id}
use Rattle.rr_laws.proofs.Releasing.{handle_gone_reached}
use Rattle.rr_laws.proofs.Leaving.{port_of-role, without_value_id, without_port_value_reached}
use Rattle.rr_laws.proofs.Sending.{response_put_reached}
use Rattle.rr_laws.proofs.LeftSteps.{handle_gone_left, port_value_left}
use Rattle.rr_laws.proofs.Distinct.{ids_changed}
use Rattle.rr_laws.proofs.ExpiredLists.{at-with_at-other, some_retained, some_after_put, requests_stay, responses_stay, senders_fit, passing_senders_fit, lists_fit, lists_fit_but_one}
use Rattle.rr_laws.proofs.ExpiredPorts.{unused_port_expired}

module _ {Q QH P PH K : Type 0} where
  -- after handles changed
  pub handles_expired : (s : State Q QH P PH K) (handles : FinMap nat_cmp (Handle Q QH P PH)) (next : ℕ) → ExpiredFit s
      → ExpiredFit (record s { handles = handles; next = next })
  handles_expired s handles next fits = lists_fit s (record s { handles = handles; next = next }) refl refl refl fits refl
      (λ n c h. h) (λ n c h. h)

  -- after clients changed, but for their numbers
  pub clients_expired : (s : State Q QH P PH K) (f : Client K → Client K) → ((c : Client K) → (f c).id ≡ c.id) → ExpiredFit s
      → ExpiredFit (record s { clients = map f s.clients })
  clients_expired s f same fits =
      record {
        each_client = subst (IsDistinct nat_eq) (sym (ids_changed (λ (c : Client K). c.id) f same s.clients)) fits.each_client;
        each_server = fits.each_server;
        each_list = λ n. senders_fit s (record s { clients = map f s.clients }) n refl (has-same (λ c. c.id) f same s.clients n) refl
            (at s.expired n) (fits.each_list n) (λ c h. h) (λ c h. h);
      }

  -- and servers
  pub servers_expired : (s : State Q QH P PH K) (f : Server K → Server K) → ((c : Server K) → (f c).id ≡ c.id) → ExpiredFit s
      → ExpiredFit (record s { servers = map f s.servers })
  servers_expired s f same fits =
      record {
        each_client = fits.each_client;
        each_server = subst (IsDistinct nat_eq) (sym (ids_changed (λ (c : Server K). c.id) f same s.servers)) fits.each_server;
        each_list = λ n. senders_fit s (record s { servers = map f s.servers }) n refl refl (has-same (λ c. c.id) f same s.servers n)
            (at s.expired n) (fits.each_list n) (λ c h. h) (λ c h. h);
      }

  port_value_expired : (s : State Q QH P PH K) (n : ℕ) → ExpiredFit s → ExpiredFit (without_port_value s n)
  port_value_expired s n fits =
      let client : Client K → Client K = λ c. record c { port = without_value n c.port } in
      servers_expired (record s { clients = map client s.clients }) (λ (c : Server K). record c { port = without_value n c.port })
      (λ c. without_value_id n c.port)
      (clients_expired s client (λ c. without_value_id n c.port) fits)

  -- after a channel's lists towards a client lost their entries
  empty_channel_expired : (s : State Q QH P PH K) (client channel : ℕ) → ExpiredFit s → ExpiredFit (with_empty_channel s client channel)
  empty_channel_expired s client channel fits =
      let after = with_empty_channel s client channel in
      let kept : ResponseKey → Bool = λ key. not (eqb key.client client && eqb key.channel channel) in
      lists_fit_but_one s after refl refl refl fits client (filter (has_responses_from after client) (at s.expired client)) refl
      (passing_senders_fit s after client refl refl refl (at s.expired client) (fits.each_list client) (has_responses_from after client)
      (λ c passes h. h) (λ c passes h. passes))
      (λ n c other h. h)
      (λ n c other. responses_stay s after n c (λ key of_server of_client. some_retained response_keys_total response_keys_exact
      s.responses kept key
      (ap (λ b. not (b && eqb key.channel channel)) (ne_eqb key.client client (λ same. other (sym of_client ∙ same))))))

  -- after a handle is gone, and what goes with it
  handle_gone_expired : (s : State Q QH P PH K) (n : ℕ) → ExpiredFit s → (h : Handle Q QH P PH)
      → ExpiredFit (after_handle_gone (record s { handles = remove s.handles n }) h)
  handle_gone_expired s n fits (RequestMutUninit m) = handles_expired s _ s.next fits
  handle_gone_expired s n fits (RequestMut m) = handles_expired s _ s.next fits
  handle_gone_expired s n fits (PendingResponse p) = empty_channel_expired (record s { handles = remove s.handles n })
      p.message.client p.message.channel (handles_expired s _ s.next fits)
  handle_gone_expired s n fits (ActiveRequest a) = handles_expired s _ s.next fits
  handle_gone_expired s n fits (ResponseMutUninit m) = handles_expired s _ s.next fits
  handle_gone_expired s n fits (ResponseMut m) = handles_expired s _ s.next fits
  handle_gone_expired s n fits (Response m) = handles_expired s _ s.next fits

  same_ports : (s : State Q QH P PH K) (n port : ℕ) (h : Handle Q QH P PH) →
      let after = after_handle_gone (record s { handles = remove s.handles n }) h in
      is_port after.clients after.servers port ≡ is_port s.clients s.servers port
  same_ports s n port (RequestMutUninit m) = refl
  same_ports s n port (RequestMut m) = refl
  same_ports s n port (PendingResponse p) = refl
  same_ports s n port (ActiveRequest a) = refl
  same_ports s n port (ResponseMutUninit m) = refl
  same_ports s n port (ResponseMut m) = refl
  same_ports s n port (Response m) = refl

  -- the port of a handle is connected
  port_connected : (s : State Q QH P PH K) → IsReached s → (n : ℕ) (h : Handle Q QH P PH) → handle_at s n ≡ Some h
      → is_port s.clients s.servers (port_of h) ≡ true
  port_connected s reached n h e = ap (is_port s.clients s.servers) (port_of-role h)
      ∙ go (role_of h) (reached.handles n (role_of h) (role_at s.handles n h e)).connected
    where
      client : (k : ℕ) → has_client s.clients k ≡ true → is_port s.clients s.servers k ≡ true
      client k h = ap (λ b. b || has_server s.servers k) h

      go : (role : Role) → has_port s.clients s.servers role ≡ true → is_port s.clients s.servers (port_number role) ≡ true
      go (LoanedRequest q) h = client q.client h
      go (SentRequest q) h = client q.client h
      go (ReceivedRequest server q) h = or_true (has_client s.clients server) _ h
      go (LoanedResponse a) h = or_true (has_client s.clients a.server) _ h
      go (ReceivedResponse a) h = client a.client h

  -- after a release of a handle or of a connected port's value
  pub after_release_expired : (s : State Q QH P PH K) (n : ℕ) → IsReached s → IsLeftFit s → ExpiredFit s
      → (handle_at s n ≡ None → is_port s.clients s.servers n ≡ true) → ExpiredFit (after_release s n)
  after_release_expired s n reached left fits named = go (handle_at s n) refl
    where
      same : is_port (without_port_value s n).clients (without_port_value s n).servers n ≡ is_port s.clients s.servers n
      same = ap (λ b. b || has_server (without_port_value s n).servers n)
          (has-same (λ (c : Client K). c.id) (λ c. record c { port = without_value n c.port }) (λ c. without_value_id n c.port) s.clients n)
          ∙ ap (λ b. has_client s.clients n || b)
          (has-same (λ (c : Server K). c.id) (λ c. record c { port = without_value n c.port }) (λ c. without_value_id n c.port) s.servers n)

      go : (o : Option (Handle Q QH P PH)) → handle_at s n ≡ o →
          ExpiredFit (option_map_or (λ handle. without_unused_port
          (after_handle_gone (record s { handles = fin_map.remove s.handles n }) handle) (port_of handle)) o
          (without_unused_port (without_port_value s n) n))
      go None e =
          unused_port_expired (without_port_value s n) n (without_port_value_reached s n reached) (port_value_left s n left)
          (port_value_expired s n fits) (same ∙ named e)
      go (Some h) e =
          unused_port_expired _ (port_of h) (handle_gone_reached s reached n h e) (handle_gone_left s n left h)
          (handle_gone_expired s n fits h) (same_ports s n (port_of h) h ∙ port_connected s reached n h e)

  -- a handle's number needs no port
  held : (s : State Q QH P PH K) (n : ℕ) (h : Handle Q QH P PH) → handle_at s n ≡ Some h → handle_at s n ≡ None
      → is_port s.clients s.servers n ≡ true
  held s n h is none = absurd (let f : None ≡ Some h = sym none ∙ is in cc)

  -- after a loan of a request, or its refusal
  pub loans_request_expired : (IsDefault : QH → Type 0) (s : State Q QH P PH K) → ExpiredFit s
      → (n len : ℕ) (result : Result ℕ LoanError) (new : State Q QH P PH K) → LoansRequest IsDefault s n len result new → ExpiredFit new
  loans_request_expired IsDefault s fits n len (Ok number) new loans =
      let o = some_and (client_at s n) _ loans in
      let client : Client K = o.0 in
      subst (λ (x : State Q QH P PH K). ExpiredFit x) (sym o.2.2.4)
      (handles_expired (record s { clients = map (with_loan_counted client.id) s.clients }) _ (s.next + 1)
      (clients_expired s (with_loan_counted client.id) (counted_id client.id) fits))
  loans_request_expired IsDefault s fits n len (Err error) new loans = subst (λ (x : State Q QH P PH K). ExpiredFit x)
      (sym (some_and (client_at s n) _ loans).2.1) fits

  -- after a loan of a response, or its refusal
  pub loans_response_expired : (IsDefault : PH → Type 0) (s : State Q QH P PH K) → ExpiredFit s
      → (n len : ℕ) (result : Result ℕ LoanError) (new : State Q QH P PH K) → LoansResponse IsDefault s n len result new → ExpiredFit new
  loans_response_expired IsDefault s fits n len (Ok number) new loans =
      subst (λ (x : State Q QH P PH K). ExpiredFit x) (sym (open_active s n _ loans).4.2.2) (handles_expired s _ (s.next + 1) fits)
  loans_response_expired IsDefault s fits n len (Err error) new loans = subst (λ (x : State Q QH P PH K). ExpiredFit x)
      (sym (open_active s n _ loans).4.1) fits

  request_put_expired : (s : State Q QH P PH K) (n : ℕ) (m : RequestMessage Q QH) → ExpiredFit s → ExpiredFit (with_sent_request s n m)
  request_put_expired s n m fits =
      let after = with_sent_request s n m in
      lists_fit s after refl refl refl fits refl
      (λ k c. requests_stay s after k c (λ key of_server of_client. some_after_put request_keys_total request_keys_exact
      s.limits.enable_safe_overflow_for_requests s.limits.max_active_requests_per_client m s.requests (request_reach s m) s.requests
      (λ j some. some) key))
      (λ k c h. h)

  response_put_expired : (s : State Q QH P PH K) (m : ResponseMessage P PH) → ExpiredFit s
      → ExpiredFit (record s { responses = with_response_put s m })
  response_put_expired s m fits =
      let after : State Q QH P PH K = record s { responses = with_response_put s m } in
      lists_fit s after refl refl refl fits refl
      (λ k c h. h)
      (λ k c. responses_stay s after k c (λ key of_server of_client. some_after_put response_keys_total response_keys_exact
      s.limits.enable_safe_overflow_for_responses s.limits.max_response_buffer_size m s.responses (response_reach s m) s.responses
      (λ j some. some) key))

  -- after a request was sent, or refused
  pub sends_request_expired : (action : K → ℕ → ℕ → BackpressureAction) (s : State Q QH P PH K) → IsReached s → IsLeftFit s → ExpiredFit s
      → (n : ℕ) (result : Result ℕ RequestSendError) (new : State Q QH P PH K) → SendsRequest action s n result new → ExpiredFit new
  sends_request_expired action s reached left fits n (Ok connections) new sends =
      let o = open_request_mut s n _ sends in
      subst (λ (x : State Q QH P PH K). ExpiredFit x) (sym o.4.2) (request_put_expired s n o.1 fits)
  sends_request_expired action s reached left fits n (Err error) new sends =
      let o = open_request_mut s n _ sends in
      subst (λ (x : State Q QH P PH K). ExpiredFit x) (sym o.4.1)
      (after_release_expired s n reached left fits (held s n (RequestMut o.1) o.2))

  -- after a response was sent, or refused
  pub sends_response_expired : {U : Type 0} (action : K → ℕ → ℕ → BackpressureAction) (s : State Q QH P PH K) → IsReached s → IsLeftFit s
      → ExpiredFit s → (n : ℕ) (result : Result U SendError) (new : State Q QH P PH K) → SendsResponse action s n result new
      → ExpiredFit new
  sends_response_expired action s reached left fits n (Ok u) new sends =
      let o = open_response_mut s n _ sends in
      subst (λ (x : State Q QH P PH K). ExpiredFit x) (sym o.4.1)
      (after_release_expired (record s { responses = with_response_put s o.1 }) n (response_put_reached s reached n o.1 o.2) left
      (response_put_expired s o.1 fits) (held s n (ResponseMut o.1) o.2))
  sends_response_expired action s reached left fits n (Err error) new sends =
      let o = open_response_mut s n _ sends in
      subst (λ (x : State Q QH P PH K). ExpiredFit x) (sym o.4.2)
      (after_release_expired s n reached left fits (held s n (ResponseMut o.1) o.2))

  takes_request_expired : (s : State Q QH P PH K) → ExpiredFit s → (key : RequestKey) (m : RequestMessage Q QH) (new : State Q QH P PH K)
      → TakesRequest s key m new → ExpiredFit new
  takes_request_expired s fits key m new takes =
      let after = without_empty_clients (record s { requests = with_at s.requests key takes.1.0 }) key.server in
      subst (λ (x : State Q QH P PH K). ExpiredFit x) (sym takes.1.2)
      (lists_fit_but_one s after refl refl refl fits key.server _ refl
      (passing_senders_fit s after key.server refl refl refl (at s.expired key.server) (fits.each_list key.server)
      (has_requests_from after key.server) (λ c passes h. passes) (λ c passes h. h))
      (λ n c other. requests_stay s after n c (λ k of_server of_client some none.
      some (sym (at-with_at-other request_keys_total request_keys_exact s.requests key takes.1.0 k
      (λ same. other (sym of_server ∙ ap (λ (j : RequestKey). j.server) same))) ∙ none)))
      (λ n c other h. h))

  takes_response_expired : (s : State Q QH P PH K) → ExpiredFit s → (key : ResponseKey) (m : ResponseMessage P PH) (new : State Q QH P PH K)
      → TakesResponse s key m new → ExpiredFit new
  takes_response_expired s fits key m new takes =
      let after = without_empty_servers (record s { responses = with_at s.responses key takes.1.0 }) key.client in
      subst (λ (x : State Q QH P PH K). ExpiredFit x) (sym takes.1.2)
      (lists_fit_but_one s after refl refl refl fits key.client _ refl
      (passing_senders_fit s after key.client refl refl refl (at s.expired key.client) (fits.each_list key.client)
      (has_responses_from after key.client) (λ c passes h. h) (λ c passes h. passes))
      (λ n c other h. h)
      (λ n c other. responses_stay s after n c (λ k of_server of_client some none.
      some (sym (at-with_at-other response_keys_total response_keys_exact s.responses key takes.1.0 k
      (λ same. other (sym of_client ∙ ap (λ (j : ResponseKey). j.client) same))) ∙ none))))

  skims_expired : (clients : List ℕ) (s : State Q QH P PH K) → ExpiredFit s → (server : ℕ) (new : State Q QH P PH K)
      → Skims s server clients new → ExpiredFit new
  skims_expired [] s fits server new skims = subst (λ (x : State Q QH P PH K). ExpiredFit x) (sym skims) fits
  skims_expired (client ∷ clients) s fits server new skims =
      skims_expired clients skims.1 (takes_request_expired s fits (request_key client server) skims.0 skims.1 skims.3) server new skims.4

  unskimmed_expired : (s : State Q QH P PH K) → ExpiredFit s → (server : ℕ) (result : Result (Option ℕ) ReceiveError)
      (new : State Q QH P PH K) → ReceivesUnskimmed s server result new → ExpiredFit new
  unskimmed_expired s fits server (Ok (Some number)) new receives =
      let r = receives.1 in
      let mid : State Q QH P PH K = r.2 in
      subst (λ (x : State Q QH P PH K). ExpiredFit x) (sym r.5)
      (handles_expired mid _ (mid.next + 1) (takes_request_expired s fits (request_key r.0 server) r.1 mid r.3))
  unskimmed_expired s fits server (Ok None) new receives = subst (λ (x : State Q QH P PH K). ExpiredFit x) (sym receives.1) fits
  unskimmed_expired s fits server (Err ReceiveError.ExceedsMaxBorrows) new receives = subst (λ (x : State Q QH P PH K). ExpiredFit x)
      (sym receives.2) fits
  unskimmed_expired s fits server (Err (ReceiveError.ConnectionFailure failure)) new receives = absurd receives

  -- after a server received, or could not
  pub receives_request_expired : (s : State Q QH P PH K) → ExpiredFit s
      → (n : ℕ) (result : Result (Option ℕ) ReceiveError) (new : State Q QH P PH K) → ReceivesRequest s n result new → ExpiredFit new
  receives_request_expired s fits n result new receives =
      let r = receives.1 in
      unskimmed_expired r.1 (skims_expired r.0 s fits n r.1 r.2) n result new r.3

  -- after a pending response received, or could not
  pub receives_response_expired : (s : State Q QH P PH K) → ExpiredFit s
      → (n : ℕ) (result : Result (Option ℕ) ReceiveError) (new : State Q QH P PH K) → ReceivesResponse s n result new → ExpiredFit new
  receives_response_expired s fits n (Ok (Some number)) new receives =
      let o = some_and (pending_at s n) _ receives in
      let r = o.2 in
      let mid : State Q QH P PH K = r.2 in
      subst (λ (x : State Q QH P PH K). ExpiredFit x) (sym r.5)
      (handles_expired mid _ mid.next (takes_response_expired s fits (response_key o.0 r.0) r.1 mid r.3))
  receives_response_expired s fits n (Ok None) new receives = subst (λ (x : State Q QH P PH K). ExpiredFit x)
      (sym (some_and (pending_at s n) _ receives).2.1) fits
  receives_response_expired s fits n (Err ReceiveError.ExceedsMaxBorrows) new receives = subst (λ (x : State Q QH P PH K). ExpiredFit x)
      (sym (some_and (pending_at s n) _ receives).2.2) fits
  receives_response_expired s fits n (Err (ReceiveError.ConnectionFailure failure)) new receives = absurd receives

-- Who is listed as left is gone, through releases, sends and receives.
use Rattle.std.specs.FinMap.{nat_cmp-IsAntisymmetric, remove}
use Rattle.std.specs.FinMap as fin_map
use Rattle.std.proofs.Common.{◌≡◌, ℕ, ◌+◌, ◌<◌, Bool, true, false, cond, not, eqb, List, [], ◌∷◌, map, Option, Some, None, Result, Ok, Err, refl, sym, subst, arith}
use Rattle.std.specs.Prelude.{filter, is_some}
use Rattle.std.specs.List.{AllByRecursion}
use Rattle.std.specs.Option.{option_map_or}
use Rattle.std.specs.Cmp.{nat_cmp_total}
use Rattle.rr_table.proofs.ListFacts.{all_each, all_filter}
use Rattle.rr_protocol.specs.declared.settings.BackpressureAction.{BackpressureAction}
use Rattle.rr_protocol.specs.declared.error.LoanError.{LoanError}
use Rattle.rr_protocol.specs.declared.error.RequestSendError.{RequestSendError}
use Rattle.rr_protocol.specs.declared.error.SendError.{SendError}
use Rattle.rr_protocol.specs.declared.error.ReceiveError.{ReceiveError}
use Rattle.rr_protocol.specs.Lists.{at, with_at}
use Rattle.rr_protocol.specs.Keys.{RequestKey, request_key}
use Rattle.rr_protocol.specs.Messages.{RequestMessage, Handle, RequestMutUninit, RequestMut, PendingResponse, ActiveRequest, ResponseMutUninit, ResponseMut, Response, response_key, port_of}
use Rattle.rr_protocol.specs.Ports.{Client, Server}
use Rattle.rr_protocol.specs.State.{State, client_at, handle_at, pending_at}
use Rattle.rr_protocol.specs.Counts.{is_in_use}
use Rattle.rr_protocol.specs.Loans.{with_loan_counted, LoansRequest, LoansResponse}
use Rattle.rr_protocol.specs.Sends.{with_response_put, SendsRequest, SendsResponse}
use Rattle.rr_protocol.specs.Receives.{TakesRequest, Skims, ReceivesUnskimmed, ReceivesRequest, ReceivesResponse}
use Rattle.rr_protocol.specs.Releases.{after_client_left, after_server_left, without_unused_port, without_port_value, without_value, after_handle_gone, after_release, has_responses_from}
use Rattle.rr_laws.specs.Roles.{Role, LoanedRequest, SentRequest, ReceivedRequest, LoanedResponse, ReceivedResponse, role_of}
use Rattle.rr_laws.specs.Reached.{has_client, has_port, IsReached}
use Rattle.rr_laws.specs.Left.{IsGone, LeftFit, IsLeftFit}
use Rattle.rr_laws.proofs.RoleLaws.{role_at}
use Rattle.rr_laws.proofs.Opening.{some_and, open_request_mut, open_response_mut, open_active}
use Rattle.rr_laws.proofs.Connected.{has_below, hadn't, port_number}
use Rattle.rr_laws.proofs.Putting.{each_list_with}
use Rattle.rr_laws.proofs.Releasing.{handle_gone_reached}
use Rattle.rr_laws.proofs.Expiring.{clients_expired, servers_expired}
use Rattle.rr_laws.proofs.Leaving.{port_of-role, without_value_id, without_port_value_reached}
use Rattle.rr_laws.proofs.Sending.{response_put_reached}
use Rattle.rr_laws.proofs.Loaning.{counted_id}
use Rattle.rr_laws.proofs.LeftPorts.{had, hasn't-gone, left_with_more, left_with_clients, left_with_servers, left_with_list, listed_clients, listed_sender}

module _ {Q QH P PH K : Type 0} where
  client_left : (s : State Q QH P PH K) (client : ℕ) → IsReached s → IsLeftFit s → has_client s.clients client ≡ true
      → IsLeftFit (after_client_left s client)
  client_left s client fits left there =
      let servers = map (λ (c : Server K). c.id) s.servers in
      let clients = filter (λ (c : Client K). not (eqb c.id client)) s.clients in
      let x = clients_expired client servers s fits in
      let IsOut : ℕ → Type 0 = λ n. IsGone clients s.servers s.next n in
      let itself : IsGone clients s.servers s.next client =
      record {
        below = has_below (λ (c : Client K). c.id) s.clients client s.next fits.ports.client_numbers there;
        no_client = hasn't-gone (λ (c : Client K). c.id) client s.clients;
        no_server = left.one_kind client there;
      } in
      let before : (n : ℕ) → AllByRecursion (IsGone clients s.servers s.next) (at s.expired n) =
      λ n. all_each _ _ (λ c g. record {
        below = g.below;
        no_client = hadn't (λ (c : Client K). c.id) client c s.clients g.no_client;
        no_server = g.no_server;
      }) (at s.expired n) (left.gone n) in
      let all = listed_clients (IsGone clients s.servers s.next) client itself servers s before in
      let listed : (n : ℕ) → AllByRecursion (IsGone clients s.servers s.next) (at x.1 n) = λ n. subst
      (λ (y : State Q QH P PH K). AllByRecursion (IsGone clients s.servers s.next) (at y.expired n)) x.2 (all n) in
      subst (λ (y : State Q QH P PH K). LeftFit (filter (λ c. not (eqb c.id client)) y.clients) y.servers
      (with_at y.expired client []) y.next) (sym x.2)
      (record {
        one_kind = λ n h. left.one_kind n (had (λ c. c.id) client n s.clients h);
        gone = each_list_with nat_cmp_total nat_cmp-IsAntisymmetric
            (λ k xs. AllByRecursion (IsGone clients s.servers s.next) xs) x.1 client [] tt listed;
      })

  -- a number was given, if some client has responses from it
  abbrev pub IsGivenSender : State Q QH P PH K → ℕ → Type 0
  IsGivenSender s n = (client : ℕ) → has_responses_from s client n ≡ true → n < s.next

  server_left : (s : State Q QH P PH K) (server : ℕ) → IsReached s → IsLeftFit s → IsGivenSender s server
      → has_client s.clients server ≡ false → IsLeftFit (after_server_left s server)
  server_left s server fits left below no_client =
      let clients = map (λ (c : Client K). c.id) s.clients in
      let servers = filter (λ (c : Server K). not (eqb c.id server)) s.servers in
      let x = servers_expired server clients s fits in
      let itself : (client : ℕ) → has_responses_from s client server ≡ true → IsGone s.clients servers s.next server =
      λ client sent. record {
        below = below client sent;
        no_client = no_client;
        no_server = hasn't-gone (λ (c : Server K). c.id) server s.servers;
      } in
      let before : (n : ℕ) → AllByRecursion (IsGone s.clients servers s.next) (at s.expired n) =
      λ n. all_each _ _ (λ c g. record {
        below = g.below;
        no_client = g.no_client;
        no_server = hadn't (λ (c : Server K). c.id) server c s.servers g.no_server;
      }) (at s.expired n) (left.gone n) in
      let all = listed_sender (IsGone s.clients servers s.next) server clients s itself before in
      let listed : (n : ℕ) → AllByRecursion (IsGone s.clients servers s.next) (at x.1 n) = λ n. subst
      (λ (y : State Q QH P PH K). AllByRecursion (IsGone s.clients servers s.next) (at y.expired n)) x.2 (all n) in
      subst (λ (y : State Q QH P PH K). LeftFit y.clients (filter (λ c. not (eqb c.id server)) y.servers)
      (with_at y.expired server []) y.next) (sym x.2)
      (record {
        one_kind = λ n h. hadn't (λ c. c.id) server n s.servers (left.one_kind n h);
        gone = each_list_with nat_cmp_total nat_cmp-IsAntisymmetric
            (λ k xs. AllByRecursion (IsGone s.clients servers s.next) xs) x.1 server [] tt listed;
      })

  unused_port_left : (s : State Q QH P PH K) (port : ℕ) → IsReached s → IsLeftFit s → IsGivenSender s port
      → IsLeftFit (without_unused_port s port)
  unused_port_left s port fits left below = go (is_in_use s port) (is_some (client_at s port)) refl
    where
      go : (used client : Bool) → is_some (client_at s port) ≡ client
          → IsLeftFit (cond used s (cond client (after_client_left s port) (after_server_left s port)))
      go true client e = left
      go false true e = client_left s port fits left e
      go false false e = server_left s port fits left below e

  -- the port of a handle has a number that was given
  pub port_below : (s : State Q QH P PH K) → IsReached s → (n : ℕ) (h : Handle Q QH P PH) → handle_at s n ≡ Some h → port_of h < s.next
  port_below s fits n h e = subst (λ k. k < s.next) (sym (port_of-role h))
      (go (role_of h) (fits.handles n (role_of h) (role_at s.handles n h e)).connected)
    where
      go : (role : Role) → has_port s.clients s.servers role ≡ true → port_number role < s.next
      go (LoanedRequest q) h = has_below (λ c. c.id) s.clients q.client s.next fits.ports.client_numbers h
      go (SentRequest q) h = has_below (λ c. c.id) s.clients q.client s.next fits.ports.client_numbers h
      go (ReceivedRequest server q) h = has_below (λ c. c.id) s.servers server s.next fits.ports.server_numbers h
      go (LoanedResponse a) h = has_below (λ c. c.id) s.servers a.server s.next fits.ports.server_numbers h
      go (ReceivedResponse a) h = has_below (λ c. c.id) s.clients a.client s.next fits.ports.client_numbers h

  -- after a handle is gone, and what goes with it
  pub handle_gone_left : (s : State Q QH P PH K) (n : ℕ) → IsLeftFit s → (h : Handle Q QH P PH)
      → IsLeftFit (after_handle_gone (record s { handles = remove s.handles n }) h)
  handle_gone_left s n left (RequestMutUninit m) = left
  handle_gone_left s n left (RequestMut m) = left
  handle_gone_left s n left (PendingResponse p) = left_with_list s.clients s.servers s.expired s.next left p.message.client _
      (all_filter _ _ (at s.expired p.message.client) (left.gone p.message.client))
  handle_gone_left s n left (ActiveRequest a) = left
  handle_gone_left s n left (ResponseMutUninit m) = left
  handle_gone_left s n left (ResponseMut m) = left
  handle_gone_left s n left (Response m) = left

  handle_gone_next : (s : State Q QH P PH K) (n : ℕ) (h : Handle Q QH P PH)
      → (after_handle_gone (record s { handles = remove s.handles n }) h).next ≡ s.next
  handle_gone_next s n (RequestMutUninit m) = refl
  handle_gone_next s n (RequestMut m) = refl
  handle_gone_next s n (PendingResponse p) = refl
  handle_gone_next s n (ActiveRequest a) = refl
  handle_gone_next s n (ResponseMutUninit m) = refl
  handle_gone_next s n (ResponseMut m) = refl
  handle_gone_next s n (Response m) = refl

  -- after a port value is gone
  pub port_value_left : (s : State Q QH P PH K) (n : ℕ) → IsLeftFit s → IsLeftFit (without_port_value s n)
  port_value_left s n left =
      left_with_servers (map (λ (c : Client K). record c { port = without_value n c.port }) s.clients) s.servers s.expired s.next
      (left_with_clients s.clients s.servers s.expired s.next left (λ (c : Client K). record c { port = without_value n c.port })
      (λ c. without_value_id n c.port))
      (λ (c : Server K). record c { port = without_value n c.port }) (λ c. without_value_id n c.port)

  -- after a release of a number that was given, or from which nobody has responses
  pub after_release_left : (s : State Q QH P PH K) (n : ℕ) → IsReached s → IsLeftFit s → IsGivenSender s n → IsLeftFit (after_release s n)
  after_release_left s n fits left below = go (handle_at s n) refl
    where
      go : (o : Option (Handle Q QH P PH)) → handle_at s n ≡ o →
          IsLeftFit (option_map_or (λ handle. without_unused_port
          (after_handle_gone (record s { handles = fin_map.remove s.handles n }) handle) (port_of handle)) o
          (without_unused_port (without_port_value s n) n))
      go None e = unused_port_left (without_port_value s n) n (without_port_value_reached s n fits) (port_value_left s n left) below
      go (Some h) e =
          unused_port_left _ (port_of h) (handle_gone_reached s fits n h e) (handle_gone_left s n left h)
          (λ client sent. subst (λ k. port_of h < k) (sym (handle_gone_next s n h)) (port_below s fits n h e))

  -- after a loan of a request, or its refusal
  pub loans_request_left : (IsDefault : QH → Type 0) (s : State Q QH P PH K) → IsLeftFit s
      → (n len : ℕ) (result : Result ℕ LoanError) (new : State Q QH P PH K) → LoansRequest IsDefault s n len result new → IsLeftFit new
  loans_request_left IsDefault s left n len (Ok number) new loans =
      let o = some_and (client_at s n) _ loans in
      let client : Client K = o.0 in
      let counted = map (with_loan_counted client.id) s.clients in
      subst (λ (x : State Q QH P PH K). IsLeftFit x) (sym o.2.2.4)
      (left_with_more counted s.servers s.expired s.next (left_with_clients s.clients s.servers s.expired s.next left
      (with_loan_counted client.id) (counted_id client.id)) (s.next + 1) (omega arith))
  loans_request_left IsDefault s left n len (Err error) new loans = subst (λ (x : State Q QH P PH K). IsLeftFit x)
      (sym (some_and (client_at s n) _ loans).2.1) left

  -- after a loan of a response, or its refusal
  pub loans_response_left : (IsDefault : PH → Type 0) (s : State Q QH P PH K) → IsLeftFit s
      → (n len : ℕ) (result : Result ℕ LoanError) (new : State Q QH P PH K) → LoansResponse IsDefault s n len result new → IsLeftFit new
  loans_response_left IsDefault s left n len (Ok number) new loans =
      subst (λ (x : State Q QH P PH K). IsLeftFit x) (sym (open_active s n _ loans).4.2.2)
      (left_with_more s.clients s.servers s.expired s.next left (s.next + 1) (omega arith))
  loans_response_left IsDefault s left n len (Err error) new loans = subst (λ (x : State Q QH P PH K). IsLeftFit x)
      (sym (open_active s n _ loans).4.1) left

  given : (s : State Q QH P PH K) → IsReached s → (n : ℕ) (h : Handle Q QH P PH) → handle_at s n ≡ Some h → n < s.next
  given s fits n h e = (fits.handles n (role_of h) (role_at s.handles n h e)).below

  -- after a request was sent, or refused
  pub sends_request_left : (action : K → ℕ → ℕ → BackpressureAction) (s : State Q QH P PH K) → IsReached s → IsLeftFit s
      → (n : ℕ) (result : Result ℕ RequestSendError) (new : State Q QH P PH K) →
      SendsRequest action s n result new → IsLeftFit new
  sends_request_left action s fits left n (Ok connections) new sends = subst (λ (x : State Q QH P PH K). IsLeftFit x)
      (sym (open_request_mut s n _ sends).4.2) left
  sends_request_left action s fits left n (Err error) new sends =
      let o = open_request_mut s n _ sends in
      subst (λ (x : State Q QH P PH K). IsLeftFit x) (sym o.4.1)
      (after_release_left s n fits left (λ client sent. given s fits n (RequestMut o.1) o.2))

  -- after a response was sent, or refused
  pub sends_response_left : {U : Type 0} (action : K → ℕ → ℕ → BackpressureAction) (s : State Q QH P PH K) → IsReached s → IsLeftFit s
      → (n : ℕ) (result : Result U SendError) (new : State Q QH P PH K) →
      SendsResponse action s n result new → IsLeftFit new
  sends_response_left action s fits left n (Ok u) new sends =
      let o = open_response_mut s n _ sends in
      subst (λ (x : State Q QH P PH K). IsLeftFit x) (sym o.4.1)
      (after_release_left (record s { responses = with_response_put s o.1 }) n (response_put_reached s fits n o.1 o.2) left
      (λ client sent. given s fits n (ResponseMut o.1) o.2))
  sends_response_left action s fits left n (Err error) new sends =
      let o = open_response_mut s n _ sends in
      subst (λ (x : State Q QH P PH K). IsLeftFit x) (sym o.4.2)
      (after_release_left s n fits left (λ client sent. given s fits n (ResponseMut o.1) o.2))

  takes_request_left : (s : State Q QH P PH K) → IsLeftFit s → (key : RequestKey) (m : RequestMessage Q QH) (new : State Q QH P PH K)
      → TakesRequest s key m new → IsLeftFit new
  takes_request_left s left key m new takes =
      subst (λ (x : State Q QH P PH K). IsLeftFit x) (sym takes.1.2)
      (left_with_list s.clients s.servers s.expired s.next left key.server _
      (all_filter _ _ (at s.expired key.server) (left.gone key.server)))

  skims_left : (clients : List ℕ) (s : State Q QH P PH K) → IsLeftFit s → (server : ℕ) (new : State Q QH P PH K)
      → Skims s server clients new → IsLeftFit new
  skims_left [] s left server new skims = subst (λ (x : State Q QH P PH K). IsLeftFit x) (sym skims) left
  skims_left (client ∷ clients) s left server new skims =
      skims_left clients skims.1 (takes_request_left s left (request_key client server) skims.0 skims.1 skims.3) server new skims.4

  unskimmed_left : (s : State Q QH P PH K) → IsLeftFit s → (server : ℕ) (result : Result (Option ℕ) ReceiveError) (new : State Q QH P PH K)
      → ReceivesUnskimmed s server result new → IsLeftFit new
  unskimmed_left s left server (Ok (Some number)) new receives =
      let r = receives.1 in
      let mid : State Q QH P PH K = r.2 in
      subst (λ (x : State Q QH P PH K). IsLeftFit x) (sym r.5)
      (left_with_more mid.clients mid.servers mid.expired mid.next (takes_request_left s left (request_key r.0 server) r.1 mid r.3)
      (mid.next + 1) (omega arith))
  unskimmed_left s left server (Ok None) new receives = subst (λ (x : State Q QH P PH K). IsLeftFit x) (sym receives.1) left
  unskimmed_left s left server (Err ReceiveError.ExceedsMaxBorrows) new receives = subst (λ (x : State Q QH P PH K). IsLeftFit x)
      (sym receives.2) left
  unskimmed_left s left server (Err (ReceiveError.ConnectionFailure failure)) new receives = absurd receives

  -- after a server received, or could not
  pub receives_request_left : (s : State Q QH P PH K) → IsLeftFit s
      → (n : ℕ) (result : Result (Option ℕ) ReceiveError) (new : State Q QH P PH K) → ReceivesRequest s n result new → IsLeftFit new
  receives_request_left s left n result new receives =
      let r = receives.1 in
      unskimmed_left r.1 (skims_left r.0 s left n r.1 r.2) n result new r.3

  -- after a pending response received, or could not
  pub receives_response_left : (s : State Q QH P PH K) → IsLeftFit s
      → (n : ℕ) (result : Result (Option ℕ) ReceiveError) (new : State Q QH P PH K) → ReceivesResponse s n result new → IsLeftFit new
  receives_response_left s left n (Ok (Some number)) new receives =
      let o = some_and (pending_at s n) _ receives in
      let r = o.2 in
      let key = response_key o.0 r.0 in
      subst (λ (x : State Q QH P PH K). IsLeftFit x) (sym r.5)
      (subst (λ (x : State Q QH P PH K). IsLeftFit x) (sym r.3.1.2)
      (left_with_list s.clients s.servers s.expired s.next left key.client _
      (all_filter _ _ (at s.expired key.client) (left.gone key.client))))
  receives_response_left s left n (Ok None) new receives = subst (λ (x : State Q QH P PH K). IsLeftFit x)
      (sym (some_and (pending_at s n) _ receives).2.1) left
  receives_response_left s left n (Err ReceiveError.ExceedsMaxBorrows) new receives = subst (λ (x : State Q QH P PH K). IsLeftFit x)
      (sym (some_and (pending_at s n) _ receives).2.2) left
  receives_response_left s left n (Err (ReceiveError.ConnectionFailure failure)) new receives = absurd receives

-- Each step leaves the limits as they were, and of each port its pool and what it does at a full queue.
use Rattle.std.specs.FinMap as fin_map
use Rattle.std.proofs.Common.{◌≡◌, ℕ, ◌+◌, Bool, true, false, cond, eqb, List, [], ◌∷◌, map, Option, Some, None, MatchOption, Result, Ok, Err, refl, sym, ◌∙◌, subst, ⊎_elim, arith}
use Rattle.std.specs.Prelude.{fold, is_some}
use Rattle.std.specs.Option.{option_map_or}
use Rattle.rr_slots.specs.declared.family.Family.{Family}
use Rattle.rr_protocol.specs.declared.settings.BackpressureAction.{BackpressureAction}
use Rattle.rr_protocol.specs.declared.settings.ClientSettings.{ClientSettings}
use Rattle.rr_protocol.specs.declared.settings.ServerSettings.{ServerSettings}
use Rattle.rr_protocol.specs.declared.error.ClientCreateError.{ClientCreateError}
use Rattle.rr_protocol.specs.declared.error.ServerCreateError.{ServerCreateError}
use Rattle.rr_protocol.specs.declared.error.LoanError.{LoanError}
use Rattle.rr_protocol.specs.declared.error.ReceiveError.{ReceiveError}
use Rattle.rr_protocol.specs.declared.error.RequestSendError.{RequestSendError}
use Rattle.rr_protocol.specs.declared.error.SendError.{SendError}
use Rattle.rr_protocol.specs.Messages.{Handle, RequestMutUninit, RequestMut, PendingResponse, ActiveRequest, ResponseMutUninit, ResponseMut, Response, port_of}
use Rattle.rr_protocol.specs.State.{State, client_at, handle_at, pending_at}
use Rattle.rr_protocol.specs.Counts.{is_in_use}
use Rattle.rr_protocol.specs.Ports.{Client, Server}
use Rattle.rr_protocol.specs.Loans.{with_loan_counted, LoansRequest, LoansResponse}
use Rattle.rr_protocol.specs.Creation.{with_client, with_server, CreatesClient, CreatesServer}
use Rattle.rr_protocol.specs.Sends.{SendsRequest, SendsResponse, with_response_put}
use Rattle.rr_protocol.specs.Receives.{Skims, ReceivesUnskimmed, ReceivesRequest, ReceivesResponse}
use Rattle.rr_protocol.specs.Releases.{has_responses_from, has_requests_from, with_expired_client, with_expired_server, after_client_left, after_server_left, without_unused_port, without_port_value, without_value, after_handle_gone, after_release}
use Rattle.rr_protocol.specs.declared.command.Command.{Command}
use Rattle.rr_protocol.specs.declared.reply.Reply.{Reply}
use Rattle.rr_protocol.specs.Refusals.{refusal}
use Rattle.rr_protocol.specs.Step.{client_settings, server_settings, with_complete, Loans, Acts, Step}
use Rattle.rr_protocol.specs.Run.{Run}
use Rattle.rr_laws.proofs.Leaving.{without_value_id}
use Rattle.rr_laws.proofs.Loaning.{counted_id}
use Rattle.rr_laws.proofs.Lasting.{client_lasting, server_lasting, ports_same, ports_with_one, ports_changed, ports_without, Lasts, frame_of, lasts_with_more, lasts_by_frame, lasts_then}
use Rattle.rr_laws.proofs.Opening.{some_and, open_request_mut, open_response_mut, open_active}
use Rattle.rr_laws.proofs.Calling.{KeptByCalls}

-- a loan that is counted leaves what lasts
counted_kept : {K : Type 0} (n : ℕ) (c : Client K) → client_lasting (with_loan_counted n c) ≡ client_lasting c
counted_kept n c = elim (eqb c.id n) as (λ b. client_lasting (cond b (record c { loans_made = c.loans_made + 1 }) c) ≡ client_lasting c)
    [ true ↦ refl | false ↦ refl ]

-- and so does a value that is gone
client_kept : {K : Type 0} (n : ℕ) (c : Client K) → client_lasting (record c { port = without_value n c.port }) ≡ client_lasting c
client_kept n c = elim (eqb c.id n)
    as (λ b. client_lasting (record c { port = cond b (record c.port { has_value = false }) c.port }) ≡ client_lasting c)
    [ true ↦ refl | false ↦ refl ]

server_kept : {K : Type 0} (n : ℕ) (c : Server K) → server_lasting (record c { port = without_value n c.port }) ≡ server_lasting c
server_kept n c = elim (eqb c.id n)
    as (λ b. server_lasting (record c { port = cond b (record c.port { has_value = false }) c.port }) ≡ server_lasting c)
    [ true ↦ refl | false ↦ refl ]

module _ {Q QH P PH K : Type 0} where
  either : (b : Bool) (x y s : State Q QH P PH K) → frame_of x ≡ frame_of s → frame_of y ≡ frame_of s → frame_of (cond b x y) ≡ frame_of s
  either true x y s e f = e
  either false x y s e f = f

  lasts_either : (b : Bool) (x y s : State Q QH P PH K) → Lasts s x → Lasts s y → Lasts s (cond b x y)
  lasts_either true x y s e f = e
  lasts_either false x y s e f = f

  -- a state that is another one, which lasts
  moved : (new mid s : State Q QH P PH K) → new ≡ mid → Lasts s mid → Lasts s new
  moved new mid s e lasts = subst (λ (x : State Q QH P PH K). Lasts s x) (sym e) lasts

  -- or all of whose frame stays
  same : (new mid s : State Q QH P PH K) → new ≡ mid → frame_of mid ≡ frame_of s → Lasts s new
  same new mid s e f = moved new mid s e (lasts_by_frame s mid f)

  clients_expired : (client : ℕ) (servers : List ℕ) (s : State Q QH P PH K)
      → frame_of (fold (with_expired_client client) s servers) ≡ frame_of s
  clients_expired client [] s = refl
  clients_expired client (server ∷ servers) s = clients_expired client servers (with_expired_client client s server)
      ∙ either (has_requests_from s server client) _ s s refl refl

  servers_expired : (server : ℕ) (clients : List ℕ) (s : State Q QH P PH K)
      → frame_of (fold (with_expired_server server) s clients) ≡ frame_of s
  servers_expired server [] s = refl
  servers_expired server (client ∷ clients) s = servers_expired server clients (with_expired_server server s client)
      ∙ either (has_responses_from s client server) _ s s refl refl

  client_left : (s : State Q QH P PH K) (client : ℕ) → Lasts s (after_client_left s client)
  client_left s client =
      let left : State Q QH P PH K = fold (with_expired_client client) s (map (λ (c : Server K). c.id) s.servers) in
      lasts_then s left (after_client_left s client) (lasts_by_frame s left (clients_expired client (map (λ c. c.id) s.servers) s))
      (record {
        limits = refl;
        next = omega arith;
        clients = ports_without (λ (c : Client K). c.id) client_lasting client left.clients left.next;
        servers = ports_same (λ (c : Server K). c.id) server_lasting left.servers left.next;
      })

  server_left : (s : State Q QH P PH K) (server : ℕ) → Lasts s (after_server_left s server)
  server_left s server =
      let left : State Q QH P PH K = fold (with_expired_server server) s (map (λ (c : Client K). c.id) s.clients) in
      lasts_then s left (after_server_left s server) (lasts_by_frame s left (servers_expired server (map (λ c. c.id) s.clients) s))
      (record {
        limits = refl;
        next = omega arith;
        clients = ports_same (λ (c : Client K). c.id) client_lasting left.clients left.next;
        servers = ports_without (λ (c : Server K). c.id) server_lasting server left.servers left.next;
      })

  unused_port : (s : State Q QH P PH K) (port : ℕ) → Lasts s (without_unused_port s port)
  unused_port s port =
      lasts_either (is_in_use s port) s _ s (lasts_by_frame s s refl)
      (lasts_either (is_some (client_at s port)) (after_client_left s port) (after_server_left s port) s (client_left s port)
      (server_left s port))

  port_value : (s : State Q QH P PH K) (n : ℕ) → Lasts s (without_port_value s n)
  port_value s n =
      record {
        limits = refl;
        next = omega arith;
        clients = ports_changed (λ (c : Client K). c.id) client_lasting (λ (c : Client K). record c { port = without_value n c.port })
            (λ c. without_value_id n c.port) (client_kept n) s.clients s.next;
        servers = ports_changed (λ (c : Server K). c.id) server_lasting (λ (c : Server K). record c { port = without_value n c.port })
            (λ c. without_value_id n c.port) (server_kept n) s.servers s.next;
      }

  handle_gone : (s : State Q QH P PH K) (h : Handle Q QH P PH) → frame_of (after_handle_gone s h) ≡ frame_of s
  handle_gone s (RequestMutUninit m) = refl
  handle_gone s (RequestMut m) = refl
  handle_gone s (PendingResponse p) = refl
  handle_gone s (ActiveRequest a) = refl
  handle_gone s (ResponseMutUninit m) = refl
  handle_gone s (ResponseMut m) = refl
  handle_gone s (Response m) = refl

  pub released : (s : State Q QH P PH K) (n : ℕ) → Lasts s (after_release s n)
  released s n = go (handle_at s n)
    where
      go : (o : Option (Handle Q QH P PH)) → Lasts s
          (option_map_or (λ handle. without_unused_port (after_handle_gone (record s { handles = fin_map.remove s.handles n }) handle)
          (port_of handle)) o (without_unused_port (without_port_value s n) n))
      go None = lasts_then s (without_port_value s n) _ (port_value s n) (unused_port (without_port_value s n) n)
      go (Some h) =
          let gone : State Q QH P PH K = after_handle_gone (record s { handles = fin_map.remove s.handles n }) h in
          lasts_then s gone (without_unused_port gone (port_of h))
          (lasts_by_frame s gone (handle_gone (record s { handles = fin_map.remove s.handles n }) h)) (unused_port gone (port_of h))

  pub creates_client : (s : State Q QH P PH K) (settings : ClientSettings K) (result : Result ℕ ClientCreateError) (new : State Q QH P PH K)
      → CreatesClient s settings result new → Lasts s new
  creates_client s settings (Ok number) new made = moved new (with_client s settings) s made.2
      (record {
        limits = refl;
        next = omega arith;
        clients = ports_with_one (λ (c : Client K). c.id) client_lasting s.clients _;
        servers = ports_same (λ (c : Server K). c.id) server_lasting s.servers s.next;
      })
  creates_client s settings (Err error) new made = same new s s made.1 refl

  pub creates_server : (s : State Q QH P PH K) (settings : ServerSettings K) (result : Result ℕ ServerCreateError) (new : State Q QH P PH K)
      → CreatesServer s settings result new → Lasts s new
  creates_server s settings (Ok number) new made = moved new (with_server s settings) s made.2
      (record {
        limits = refl;
        next = omega arith;
        clients = ports_same (λ (c : Client K). c.id) client_lasting s.clients s.next;
        servers = ports_with_one (λ (c : Server K). c.id) server_lasting s.servers _;
      })
  creates_server s settings (Err error) new made = same new s s made.1 refl

  pub loans_request : (IsDefault : QH → Type 0) (s : State Q QH P PH K) (n len : ℕ) (result : Result ℕ LoanError) (new : State Q QH P PH K)
      → LoansRequest IsDefault s n len result new → Lasts s new
  loans_request IsDefault s n len (Ok number) new loans =
      let o = some_and (client_at s n) _ loans in
      let client : Client K = o.0 in
      moved new _ s o.2.2.4
      (record {
        limits = refl;
        next = omega arith;
        clients = ports_changed (λ (c : Client K). c.id) client_lasting (with_loan_counted client.id) (counted_id client.id)
            (counted_kept client.id) s.clients s.next;
        servers = ports_same (λ (c : Server K). c.id) server_lasting s.servers s.next;
      })
  loans_request IsDefault s n len (Err error) new loans = same new s s (some_and (client_at s n) _ loans).2.1 refl

  pub loans_response : (IsDefault : PH → Type 0) (s : State Q QH P PH K) (n len : ℕ) (result : Result ℕ LoanError) (new : State Q QH P PH K)
      → LoansResponse IsDefault s n len result new → Lasts s new
  loans_response IsDefault s n len (Ok number) new loans = moved new _ s (open_active s n _ loans).4.2.2
      (lasts_with_more s _ refl (omega arith) refl refl)
  loans_response IsDefault s n len (Err error) new loans = same new s s (open_active s n _ loans).4.1 refl

  pub sends_request : (action : K → ℕ → ℕ → BackpressureAction) (s : State Q QH P PH K) (n : ℕ) (result : Result ℕ RequestSendError)
      (new : State Q QH P PH K) → SendsRequest action s n result new → Lasts s new
  sends_request action s n (Ok connections) new sends = same new _ s (open_request_mut s n _ sends).4.2 refl
  sends_request action s n (Err error) new sends = moved new _ s (open_request_mut s n _ sends).4.1 (released s n)

  pub sends_response : {U : Type 0} (action : K → ℕ → ℕ → BackpressureAction) (s : State Q QH P PH K) (n : ℕ) (result : Result U SendError)
      (new : State Q QH P PH K) → SendsResponse action s n result new → Lasts s new
  sends_response action s n (Ok u) new sends =
      let o = open_response_mut s n _ sends in
      let put : State Q QH P PH K = record s { responses = with_response_put s o.1 } in
      moved new (after_release put n) s o.4.1 (lasts_then s put (after_release put n) (lasts_by_frame s put refl) (released put n))
  sends_response action s n (Err error) new sends = moved new _ s (open_response_mut s n _ sends).4.2 (released s n)

  -- after dead requests left the fronts of lists
  pub skims : (clients : List ℕ) (s : State Q QH P PH K) (server : ℕ) (new : State Q QH P PH K) → Skims s server clients new → Lasts s new
  skims [] s server new h = same new s s h refl
  skims (client ∷ clients) s server new h = lasts_then s h.1 new (same h.1 _ s h.3.1.2 refl) (skims clients h.1 server new h.4)

  unskimmed : (s : State Q QH P PH K) (server : ℕ) (result : Result (Option ℕ) ReceiveError) (new : State Q QH P PH K)
      → ReceivesUnskimmed s server result new → Lasts s new
  unskimmed s server (Ok (Some number)) new h =
      let mid : State Q QH P PH K = h.1.2 in
      lasts_then s mid new (same mid _ s h.1.3.1.2 refl) (moved new _ mid h.1.5 (lasts_with_more mid _ refl (omega arith) refl refl))
  unskimmed s server (Ok None) new h = same new s s h.1 refl
  unskimmed s server (Err ReceiveError.ExceedsMaxBorrows) new h = same new s s h.2 refl
  unskimmed s server (Err (ReceiveError.ConnectionFailure failure)) new h = absurd h

  pub receives_request : (s : State Q QH P PH K) (n : ℕ) (result : Result (Option ℕ) ReceiveError) (new : State Q QH P PH K)
      → ReceivesRequest s n result new → Lasts s new
  receives_request s n result new h = lasts_then s h.1.1 new (skims h.1.0 s n h.1.1 h.1.2) (unskimmed h.1.1 n result new h.1.3)

  pub receives_response : (s : State Q QH P PH K) (n : ℕ) (result : Result (Option ℕ) ReceiveError) (new : State Q QH P PH K)
      → ReceivesResponse s n result new → Lasts s new
  receives_response s n (Ok (Some number)) new h =
      let r = (some_and (pending_at s n) _ h).2 in
      let mid : State Q QH P PH K = r.2 in
      lasts_then s mid new (same mid _ s r.3.1.2 refl) (same new _ mid r.5 refl)
  receives_response s n (Ok None) new h = same new s s (some_and (pending_at s n) _ h).2.1 refl
  receives_response s n (Err ReceiveError.ExceedsMaxBorrows) new h = same new s s (some_and (pending_at s n) _ h).2.2 refl
  receives_response s n (Err (ReceiveError.ConnectionFailure failure)) new h = absurd h

module _ {Q QH P PH K : Type 0} (action : K → ℕ → ℕ → BackpressureAction) (IsDefaultRequestHeader : QH → Type 0)
    (IsDefaultResponseHeader : PH → Type 0) (start : State Q QH P PH K) where
  -- what lasts from some state on still does
  pub lasts_kept : KeptByCalls action IsDefaultRequestHeader IsDefaultResponseHeader (λ s. Lasts start s) (λ s n. Unit {0})
  lasts_kept = record {
    client = λ s fits lasts settings result new call. lasts_then start s new lasts (creates_client s settings result new call);
    server = λ s fits lasts settings result new call. lasts_then start s new lasts (creates_server s settings result new call);
    loan_request = λ s fits lasts n len result new call. lasts_then start s new lasts
        (loans_request IsDefaultRequestHeader s n len result new call);
    loan_response = λ s fits lasts n len result new call. lasts_then start s new lasts
        (loans_response IsDefaultResponseHeader s n len result new call);
    change = λ s fits lasts n change kept. lasts_then start s _ lasts (lasts_by_frame s _ refl);
    send_request = λ s fits lasts n result new call. lasts_then start s new lasts (sends_request action s n result new call);
    send_response = λ s fits lasts n result new call. lasts_then start s new lasts (sends_response action s n result new call);
    receive_request = λ s fits lasts n result new call. lasts_then start s new lasts (receives_request s n result new call);
    receive_response = λ s fits lasts n result new call. lasts_then start s new lasts (receives_response s n result new call);
    release = λ s fits lasts n may. lasts_then start s _ lasts (released s n);
  }

module _ {T H K : Type 0} (action : K → ℕ → ℕ → BackpressureAction) (IsDefaultElement : T → Type 0) (IsDefaultHeader : H → Type 0)
    (family : Family) where
  loans : (old : State T H T H K) (n len : ℕ) (result : Result ℕ LoanError) (new : State T H T H K)
      → Loans action IsDefaultElement IsDefaultHeader family old n len result new → Lasts old new
  loans old n len result new h = ⊎_elim (loans_request IsDefaultHeader old n len result new)
      (loans_response IsDefaultHeader old n len result new) h

  -- a loan, a body that is written, and the send
  written : (old mid new : State T H T H K) (k : ℕ) (v : T) → Lasts old mid → Lasts (with_complete mid k (v ∷ [])) new → Lasts old new
  written old mid new k v loan send = lasts_then old mid new loan
      (lasts_then mid (with_complete mid k (v ∷ [])) new (lasts_by_frame mid (with_complete mid k (v ∷ [])) refl) send)

  acts_last : (old : State T H T H K) (command : Command T H K) (reply : Reply T H) (new : State T H T H K)
      → Acts action IsDefaultElement IsDefaultHeader family old command reply new → Lasts old new
  acts_last old (Command.CreateClient settings) (Reply.Created n) new acts = creates_client old (client_settings family settings)
      (Ok n) new acts
  acts_last old (Command.CreateClient settings) (Reply.ClientError e) new acts = creates_client old (client_settings family settings)
      (Err e) new acts
  acts_last old (Command.CreateClient settings) Reply.NoMemory new acts = same new old old acts refl
  acts_last old (Command.CreateServer settings) (Reply.Created n) new acts = creates_server old (server_settings family settings)
      (Ok n) new acts
  acts_last old (Command.CreateServer settings) (Reply.ServerError e) new acts = creates_server old (server_settings family settings)
      (Err e) new acts
  acts_last old (Command.CreateServer settings) Reply.NoMemory new acts = same new old old acts refl
  acts_last old (Command.Loan n len) (Reply.Loaned k) new acts = loans old n len (Ok k) new acts
  acts_last old (Command.Loan n len) (Reply.LoanError e) new acts = loans old n len (Err e) new acts
  acts_last old (Command.Loan n len) Reply.NoMemory new acts = same new old old acts refl
  acts_last old (Command.LoanDefault n len) (Reply.Loaned k) new acts =
      lasts_then old acts.0 new (loans old n len (Ok k) acts.0 acts.2) (same new _ acts.0 acts.5 refl)
  acts_last old (Command.LoanDefault n len) (Reply.LoanError e) new acts = loans old n len (Err e) new acts
  acts_last old (Command.LoanDefault n len) Reply.NoMemory new acts = same new old old acts refl
  acts_last old (Command.SendCopy n v) (Reply.Pending k connections) new acts = written old acts.0 new k v
      (loans_request IsDefaultHeader old n 1 (Ok k) acts.0 acts.1)
      (sends_request action (with_complete acts.0 k (v ∷ [])) k (Ok connections) new acts.2)
  acts_last old (Command.SendCopy n v) (Reply.RequestError e) new acts =
      ⊎_elim
      (λ loan. loans_request IsDefaultHeader old n 1 (Err loan.0) new loan.1)
      (λ send. written old send.0 new send.1 v (loans_request IsDefaultHeader old n 1 (Ok send.1) send.0 send.2)
      (sends_request action (with_complete send.0 send.1 (v ∷ [])) send.1 (Err e) new send.3))
      acts
  acts_last old (Command.SendCopy n v) (Reply.Sent k) new acts = written old acts.0 new k v
      (loans_response IsDefaultHeader old n 1 (Ok k) acts.0 acts.1)
      (sends_response action (with_complete acts.0 k (v ∷ [])) k (Ok k) new acts.2)
  acts_last old (Command.SendCopy n v) (Reply.SendError e) new acts =
      ⊎_elim
      (λ loan. loans_response IsDefaultHeader old n 1 (Err loan.0) new loan.1)
      (λ send. written old send.0 new send.1 v (loans_response IsDefaultHeader old n 1 (Ok send.1) send.0 send.2)
      (sends_response {U = ℕ} action (with_complete send.0 send.1 (v ∷ [])) send.1 (Err e) new send.3))
      acts
  acts_last old (Command.SendCopy n v) Reply.NoMemory new acts = same new old old acts refl
  acts_last old (Command.Push n v) (Reply.Flag b) new acts = same new _ old (some_and (handle_at old n) _ acts).2.1
      (either b _ old old refl refl)
  acts_last old (Command.Set n i v) (Reply.Flag b) new acts = same new _ old (some_and (handle_at old n) _ acts).2.1
      (either b _ old old refl refl)
  acts_last old (Command.SetUserHeader n h) Reply.Done new acts = same new _ old acts refl
  acts_last old (Command.AssumeInit n) Reply.Done new acts = same new _ old acts refl
  acts_last old (Command.IsDeliverable n) (Reply.Flag b) new acts = same new old old acts.1 refl
  acts_last old (Command.Send n) (Reply.Pending k connections) new acts = sends_request action old n (Ok connections) new acts.1
  acts_last old (Command.Send n) (Reply.RequestError e) new acts = sends_request action old n (Err e) new acts
  acts_last old (Command.Send n) (Reply.Sent k) new acts = sends_response action old n (Ok k) new acts.1
  acts_last old (Command.Send n) (Reply.SendError e) new acts = sends_response {U = ℕ} action old n (Err e) new acts
  acts_last old (Command.Receive n) (Reply.Active a r) new acts = receives_request old n (Ok (Some a)) new acts.0
  acts_last old (Command.Receive n) (Reply.Response k) new acts = receives_response old n (Ok (Some k)) new acts
  acts_last old (Command.Receive n) Reply.Nothing new acts = ⊎_elim (receives_request old n (Ok None) new)
      (receives_response old n (Ok None) new) acts
  acts_last old (Command.Receive n) (Reply.ReceiveError e) new acts = ⊎_elim (receives_request old n (Err e) new)
      (receives_response old n (Err e) new) acts
  acts_last old (Command.Receive n) Reply.NoMemory new acts = same new old old acts refl
  acts_last old (Command.HasEntries n) (Reply.Flag b) new acts = same new old old acts.1 refl
  acts_last old (Command.IsConnected n) (Reply.Flag b) new acts = same new old old acts.1 refl
  acts_last old (Command.SetHint n) Reply.Done new acts = same new _ old acts refl
  acts_last old (Command.HasHint n) (Reply.Flag b) new acts = same new old old acts.1 refl
  acts_last old (Command.Servers n) (Reply.Count c) new acts = same new old old acts.1 refl
  acts_last old (Command.Header n) (Reply.RequestHeader h) new acts = same new old old acts.1 refl
  acts_last old (Command.Header n) (Reply.ResponseHeader h) new acts = same new old old acts.1 refl
  acts_last old (Command.UserHeader n) (Reply.UserHeader h) new acts = same new old old acts.1 refl
  acts_last old (Command.Payload n) (Reply.Payload elements) new acts = same new old old acts.1 refl
  acts_last old (Command.Payload n) Reply.NoMemory new acts = same new old old acts refl
  acts_last old (Command.Origin n) (Reply.Id m) new acts = same new old old acts.1 refl
  acts_last old (Command.Strategy n) (Reply.Strategy s) new acts = same new old old acts.1 refl
  acts_last old (Command.MaxSliceLen n) (Reply.Count c) new acts = same new old old acts.1 refl
  acts_last old (Command.UpdateConnections n) Reply.Done new acts = same new old old acts refl
  acts_last old (Command.Release n) Reply.Done new acts = moved new _ old acts (released old n)
  acts_last old command reply new acts = absurd acts

  -- after any step
  pub step_lasts : (old : State T H T H K) (command : Command T H K) (reply : Reply T H) (new : State T H T H K)
      → Step action IsDefaultElement IsDefaultHeader family old command reply new → Lasts old new
  step_lasts old command reply new step = go (refusal family old command) step
    where
      go : (o : Option (Reply T H)) → MatchOption o (Acts action IsDefaultElement IsDefaultHeader family old command reply new)
          (λ refused. (reply ≡ refused) × (new ≡ old)) → Lasts old new
      go None step = acts_last old command reply new step
      go (Some refused) step = same new old old step.1 refl

  -- after any run
  pub run_lasts : (old : State T H T H K) (commands : List (Command T H K)) (replies : List (Reply T H)) (new : State T H T H K) →
      Run action IsDefaultElement IsDefaultHeader family old commands replies new → Lasts old new
  run_lasts old [] [] new run = same new old old run refl
  run_lasts old (command ∷ commands) (reply ∷ replies) new run =
      lasts_then old run.0 new (step_lasts old command reply run.0 run.1) (run_lasts run.0 commands replies new run.2)
  run_lasts old [] (reply ∷ replies) new run = absurd run
  run_lasts old (command ∷ commands) [] new run = absurd run

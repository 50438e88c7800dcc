-- The message machine: the replies that a runner may give to a command, and the state after it.
use Rattle.std.specs.Prelude.{◌≡◌, ◌⊎◌, ◌↔◌, ℕ, Bool, not, nat_lt, if◌then◌else◌, List, [], ◌∷◌, length, All, Option, Some, None, option_and_then, option_map, MatchOption, IsSomeAnd, Result, Ok, Err, IsTrue}
use Rattle.std.specs.Option.{option_map_or}
use Rattle.rr_slots.specs.declared.family.Family.{Family}
use Rattle.rr_slots.specs.declared.family.Family.TheVariants.{Typed, Sliced}
use Rattle.rr_protocol.specs.declared.settings.BackpressureAction.{BackpressureAction}
use Rattle.rr_protocol.specs.declared.settings.AllocationStrategy.{AllocationStrategy}
use Rattle.rr_protocol.specs.declared.settings.ClientSettings.{ClientSettings}
use Rattle.rr_protocol.specs.declared.settings.ServerSettings.{ServerSettings}
use Rattle.rr_protocol.specs.declared.error.LoanError.{LoanError}
use Rattle.rr_protocol.specs.declared.error.SendError.{SendError}
use Rattle.rr_protocol.specs.declared.error.RequestSendError.{RequestSendError}
use Rattle.rr_protocol.specs.Messages.{Content, Handle, request_in, response_in, with_hint}
use Rattle.rr_protocol.specs.Writing.{is_complete, with_element, with_element_at, with_elements, with_user_header, with_request_content, with_response_content, after_init}
use Rattle.rr_protocol.specs.Ports.{Port}
use Rattle.rr_protocol.specs.State.{State, client_at, server_at, handle_at, pending_at, active_at, with_changed}
use Rattle.rr_protocol.specs.Counts.{is_alive}
use Rattle.rr_protocol.specs.Queries.{has_disconnect_hint, HasRequests, HasResponse, request_header, response_header}
use Rattle.rr_protocol.specs.Loans.{LoansRequest, LoansResponse}
use Rattle.rr_protocol.specs.Sends.{is_request_deliverable, is_response_deliverable, SendsRequest, SendsResponse}
use Rattle.rr_protocol.specs.Receives.{ReceivesRequest, ReceivesResponse}
use Rattle.rr_protocol.specs.Releases.{after_release}
use Rattle.rr_protocol.specs.Creation.{CreatesClient, CreatesServer}
use Rattle.rr_protocol.specs.declared.command.Command.{Command}
use Rattle.rr_protocol.specs.declared.reply.Reply.{Reply}
use Rattle.rr_protocol.specs.Refusals.{content_in, refusal}

module _ {K : Type 0} where
  -- settings as a family reads them: typed messages have one element
  abbrev pub client_settings : Family → ClientSettings K → ClientSettings K
  client_settings Typed settings =
      record settings { initial_max_slice_len = 1; allocation_strategy = AllocationStrategy.Static }
  client_settings Sliced settings = settings

  -- the same of a server's settings
  abbrev pub server_settings : Family → ServerSettings K → ServerSettings K
  server_settings Typed settings =
      record settings { initial_max_slice_len = 1; allocation_strategy = AllocationStrategy.Static }
  server_settings Sliced settings = settings

module _ {T H : Type 0} where
  -- the client that a received request came from, or the server that a received response came from
  abbrev pub origin_of : Handle T H T H → Option ℕ
  origin_of (Handle.ActiveRequest a) = Some a.message.client
  origin_of (Handle.Response m) = Some m.server
  origin_of handle = None

module _ {T H K : Type 0} where
  -- after the content of the message in a handle changed
  abbrev pub with_content : State T H T H K → ℕ → (Content T H → Content T H) → State T H T H K
  with_content s n change =
      with_changed s n (λ handle. with_request_content change (with_response_content change handle))

  -- after these elements were written to an uninitialised message, and it was taken as complete
  abbrev pub with_complete : State T H T H K → ℕ → List T → State T H T H K
  with_complete s n elements = with_changed (with_content s n (with_elements elements)) n after_init

  -- the connected client or server with this number
  abbrev pub port_at : State T H T H K → ℕ → Option (Port K)
  port_at s n =
      option_map_or (λ client. Some client.port) (client_at s n) (option_map (λ server. server.port) (server_at s n))

  -- whether a send would be blocked by no list
  abbrev pub is_deliverable : State T H T H K → Handle T H T H → Option Bool
  is_deliverable s (Handle.RequestMut m) = Some (is_request_deliverable s m)
  is_deliverable s (Handle.ResponseMut m) = Some (is_response_deliverable s m)
  is_deliverable s handle = None

  -- whether a pending response waits for some server, or an active request for its client
  abbrev pub is_connected : State T H T H K → Handle T H T H → Option Bool
  is_connected s (Handle.PendingResponse p) = Some (nat_lt 0 (length p.servers))
  is_connected s (Handle.ActiveRequest a) = Some (is_alive s a.message.number)
  is_connected s handle = None

module _ {T H K : Type 0} (action : K → ℕ → ℕ → BackpressureAction) (IsDefaultElement : T → Type 0)
    (IsDefaultHeader : H → Type 0) (family : Family) where
  -- a loan of a request by a client, or of a response by an active request
  abbrev pub Loans : State T H T H K → ℕ → ℕ → Result ℕ LoanError → State T H T H K → Type 0
  Loans old n len result new =
      LoansRequest IsDefaultHeader old n len result new ⊎ LoansResponse IsDefaultHeader old n len result new

  -- the effect of a command that is not refused, by its reply
  abbrev pub Acts : State T H T H K → Command T H K → Reply T H → State T H T H K → Type 0
  Acts old (Command.CreateClient settings) (Reply.Created n) new =
      CreatesClient old (client_settings family settings) (Ok n) new
  Acts old (Command.CreateClient settings) (Reply.ClientError e) new =
      CreatesClient old (client_settings family settings) (Err e) new
  Acts old (Command.CreateClient settings) Reply.NoMemory new = new ≡ old
  Acts old (Command.CreateServer settings) (Reply.Created n) new =
      CreatesServer old (server_settings family settings) (Ok n) new
  Acts old (Command.CreateServer settings) (Reply.ServerError e) new =
      CreatesServer old (server_settings family settings) (Err e) new
  Acts old (Command.CreateServer settings) Reply.NoMemory new = new ≡ old
  Acts old (Command.Loan n len) (Reply.Loaned k) new = Loans old n len (Ok k) new
  Acts old (Command.Loan n len) (Reply.LoanError e) new = Loans old n len (Err e) new
  Acts old (Command.Loan n len) Reply.NoMemory new = new ≡ old
  -- a loan, and then as many default elements as were loaned
  Acts old (Command.LoanDefault n len) (Reply.Loaned k) new =
      (mid : State T H T H K) × (elements : List T) × Loans old n len (Ok k) mid
      × (length elements ≡ len) × All IsDefaultElement elements × (new ≡ with_complete mid k elements)
  Acts old (Command.LoanDefault n len) (Reply.LoanError e) new = Loans old n len (Err e) new
  Acts old (Command.LoanDefault n len) Reply.NoMemory new = new ≡ old
  -- a loan, the one element, and the send
  Acts old (Command.SendCopy n v) (Reply.Pending k connections) new =
      (mid : State T H T H K) × LoansRequest IsDefaultHeader old n 1 (Ok k) mid
      × SendsRequest action (with_complete mid k (v ∷ [])) k (Ok connections) new
  Acts old (Command.SendCopy n v) (Reply.RequestError e) new =
      ((loan : LoanError) × LoansRequest IsDefaultHeader old n 1 (Err loan) new
      × (e ≡ RequestSendError.SendError (SendError.LoanError loan)))
      ⊎ ((mid : State T H T H K) × (k : ℕ) × LoansRequest IsDefaultHeader old n 1 (Ok k) mid
      × SendsRequest action (with_complete mid k (v ∷ [])) k (Err e) new)
  Acts old (Command.SendCopy n v) (Reply.Sent k) new =
      (mid : State T H T H K) × LoansResponse IsDefaultHeader old n 1 (Ok k) mid
      × SendsResponse action (with_complete mid k (v ∷ [])) k (Ok k) new
  Acts old (Command.SendCopy n v) (Reply.SendError e) new =
      ((loan : LoanError) × LoansResponse IsDefaultHeader old n 1 (Err loan) new × (e ≡ SendError.LoanError loan))
      ⊎ ((mid : State T H T H K) × (k : ℕ) × LoansResponse IsDefaultHeader old n 1 (Ok k) mid
      × SendsResponse {U = ℕ} action (with_complete mid k (v ∷ [])) k (Err e) new)
  Acts old (Command.SendCopy n v) Reply.NoMemory new = new ≡ old
  Acts old (Command.Push n v) (Reply.Flag b) new =
      IsSomeAnd (handle_at old n) (λ handle.
      (b ≡ not (is_complete (content_in handle))) × (new ≡ (if b then with_content old n (with_element v) else old)))
  Acts old (Command.Set n i v) (Reply.Flag b) new =
      IsSomeAnd (handle_at old n) (λ handle.
      (b ≡ nat_lt i (length (content_in handle).elements))
      × (new ≡ (if b then with_content old n (with_element_at i v) else old)))
  Acts old (Command.SetUserHeader n h) Reply.Done new = new ≡ with_content old n (with_user_header h)
  Acts old (Command.AssumeInit n) Reply.Done new = new ≡ with_changed old n after_init
  Acts old (Command.IsDeliverable n) (Reply.Flag b) new =
      (option_and_then (is_deliverable old) (handle_at old n) ≡ Some b) × (new ≡ old)
  Acts old (Command.Send n) (Reply.Pending k connections) new =
      (k ≡ n) × SendsRequest action old n (Ok connections) new
  Acts old (Command.Send n) (Reply.RequestError e) new = SendsRequest action old n (Err e) new
  Acts old (Command.Send n) (Reply.Sent k) new = (k ≡ n) × SendsResponse action old n (Ok k) new
  Acts old (Command.Send n) (Reply.SendError e) new = SendsResponse {U = ℕ} action old n (Err e) new
  Acts old (Command.Receive n) (Reply.Active a r) new =
      ReceivesRequest old n (Ok (Some a)) new × IsSomeAnd (active_at new a) (λ active. r ≡ active.message.number)
  Acts old (Command.Receive n) (Reply.Response k) new = ReceivesResponse old n (Ok (Some k)) new
  Acts old (Command.Receive n) Reply.Nothing new =
      ReceivesRequest old n (Ok None) new ⊎ ReceivesResponse old n (Ok None) new
  Acts old (Command.Receive n) (Reply.ReceiveError e) new =
      ReceivesRequest old n (Err e) new ⊎ ReceivesResponse old n (Err e) new
  Acts old (Command.Receive n) Reply.NoMemory new = new ≡ old
  Acts old (Command.HasEntries n) (Reply.Flag b) new =
      MatchOption (pending_at old n) (IsTrue b ↔ HasRequests old n) (λ pending. IsTrue b ↔ HasResponse old pending)
      × (new ≡ old)
  Acts old (Command.IsConnected n) (Reply.Flag b) new =
      (option_and_then (is_connected old) (handle_at old n) ≡ Some b) × (new ≡ old)
  Acts old (Command.SetHint n) Reply.Done new = new ≡ with_changed old n with_hint
  Acts old (Command.HasHint n) (Reply.Flag b) new =
      IsSomeAnd (active_at old n) (λ active. b ≡ has_disconnect_hint old active.message.number) × (new ≡ old)
  Acts old (Command.Servers n) (Reply.Count c) new =
      IsSomeAnd (pending_at old n) (λ pending. c ≡ pending.connections) × (new ≡ old)
  Acts old (Command.Header n) (Reply.RequestHeader h) new =
      IsSomeAnd (option_and_then request_in (handle_at old n)) (λ message. h ≡ request_header old message)
      × (new ≡ old)
  Acts old (Command.Header n) (Reply.ResponseHeader h) new =
      IsSomeAnd (option_and_then response_in (handle_at old n)) (λ message. h ≡ response_header old message)
      × (new ≡ old)
  Acts old (Command.UserHeader n) (Reply.UserHeader h) new =
      IsSomeAnd (handle_at old n) (λ handle. h ≡ (content_in handle).user_header) × (new ≡ old)
  Acts old (Command.Payload n) (Reply.Payload elements) new =
      IsSomeAnd (handle_at old n) (λ handle. elements ≡ (content_in handle).elements) × (new ≡ old)
  Acts old (Command.Payload n) Reply.NoMemory new = new ≡ old
  Acts old (Command.Origin n) (Reply.Id m) new = (option_and_then origin_of (handle_at old n) ≡ Some m) × (new ≡ old)
  Acts old (Command.Strategy n) (Reply.Strategy s) new =
      IsSomeAnd (port_at old n) (λ port. s ≡ port.strategy) × (new ≡ old)
  Acts old (Command.MaxSliceLen n) (Reply.Count c) new =
      IsSomeAnd (port_at old n) (λ port. c ≡ port.initial_max_slice_len) × (new ≡ old)
  Acts old (Command.UpdateConnections n) Reply.Done new = new ≡ old
  Acts old (Command.Release n) Reply.Done new = new ≡ after_release old n
  -- no other reply is given
  Acts old command reply new = ⊥

  -- from old, the machine may answer a command with this reply and go on to new
  abbrev pub Step : State T H T H K → Command T H K → Reply T H → State T H T H K → Type 0
  Step old command reply new =
      MatchOption (refusal family old command) (Acts old command reply new)
      (λ refused. (reply ≡ refused) × (new ≡ old))

-- Each call of a port leads on, by calls of the message machine.
use Rattle.std.proofs.Common.{◌≡◌, ℕ, List, [], ◌∷◌, ◌++◌, Option, Some, None, Result, Ok, Err, refl, sym, ap, ◌∙◌, subst, ⊎_elim, inl, inr}
use Rattle.std.specs.Prelude.{true, option_and_then, IsSomeAnd}
use Rattle.std.specs.Borrow.{Bor}
use Rattle.std.specs.Fn.{Once}
use Rattle.rr_table.proofs.MapLaws.{get-insert_same}
use Rattle.rr_protocol.specs.declared.settings.BackpressureAction.{BackpressureAction}
use Rattle.rr_protocol.specs.declared.settings.ClientSettings.{ClientSettings}
use Rattle.rr_protocol.specs.declared.settings.ServerSettings.{ServerSettings}
use Rattle.rr_protocol.specs.declared.error.ClientCreateError.{ClientCreateError}
use Rattle.rr_protocol.specs.declared.error.LoanError.{LoanError}
use Rattle.rr_protocol.specs.declared.error.ReceiveError.{ReceiveError}
use Rattle.rr_protocol.specs.declared.error.RequestSendError.{RequestSendError}
use Rattle.rr_protocol.specs.declared.error.SendError.{SendError}
use Rattle.rr_protocol.specs.declared.error.ServerCreateError.{ServerCreateError}
use Rattle.rr_protocol.specs.Creation.{CreatesClient, CreatesServer}
use Rattle.rr_protocol.specs.Loans.{LoansRequest, LoansResponse}
use Rattle.rr_protocol.specs.Messages.{Active, ActiveRequest, Content, as_active, with_hint}
use Rattle.rr_protocol.specs.Receives.{ReceivesRequest, ReceivesResponse}
use Rattle.rr_protocol.specs.Releases.{after_release}
use Rattle.rr_protocol.specs.Sends.{SendsRequest, SendsResponse}
use Rattle.rr_protocol.specs.State.{State, active_at, client_at, handle_at, with_changed}
use Rattle.rr_protocol.specs.Writing.{after_init, with_elements, with_request_content, with_response_content}
use Rattle.rr_protocol.specs.declared.command.Command.{Command}
use Rattle.rr_protocol.specs.declared.reply.Reply.{Reply}
use Rattle.rr_protocol.specs.PortRun.{KeepsAsked, PortEvent, PortRun, PortStep}
use Rattle.rr_laws.proofs.Opening.{open_active, some_and}
use Rattle.rr_ports.specs.Factories.{CreatesClientBy, CreatesServerBy, Factory}
use Rattle.rr_ports.specs.Facts.{Keeps}
use Rattle.rr_ports.specs.Loaning.{LoansComplete, LoansResponseComplete, SendsElements, SendsResponseElements}
use Rattle.rr_hub.specs.Copies.{with_complete_request, with_complete_response}
use Rattle.rr_ports.specs.Responding.{RespondsSlice}
use Rattle.rr_ports.specs.Sending.{SendsPending}
use Rattle.rr_ports.specs.Shortcuts.{HearsCopy, ReceivesCopy, TellsCopy}
use Rattle.rr_ports.specs.declared.try_send.Refused.{Refused}
use Rattle.rr_shared_ports.specs.declared.error.CallError.{CallError}
use Rattle.rr_shared_ports.specs.declared.error.CallError.TheVariants.{NumbersExhausted, Port}
use Rattle.rr_shared_ports.specs.declared.error.FinishError.{FinishError}
use Rattle.rr_shared_ports.specs.declared.error.FinishError.TheVariants.{NoResponse, NoServer, Receive}
use Rattle.rr_shared_ports.specs.Exchanges.{AnswersWith, Finishes, ReceivesNone}
use Rattle.rr_shared_ports.specs.Leading.{LeadsTo, Steps}
use Rattle.rr_shared_ports.specs.Waits.{ReceivesOrEnds}

-- what a server received is an active request
received_active : {Q QH P PH K : Type 0} (old new : State Q QH P PH K) (server k : ℕ) → ReceivesRequest old server (Ok (Some k)) new
    → (r : ℕ) × IsSomeAnd (active_at new k) (λ active. r ≡ active.message.number)
received_active old new server k receives =
    let came = receives.1.3 in
    let taken = came.1 in
    let same : taken.2.next ≡ receives.1.1.next = ap (λ s. s.next) taken.3.1.2 in
    let active : Active _ _ = record { message = taken.1; server = server } in
    let there = ap (λ s. handle_at s k) taken.5 ∙ get-insert_same taken.2.handles taken.2.next (ActiveRequest active) k (came.0 ∙ sym same) in (
      taken.1.number,
      subst (λ o. IsSomeAnd (option_and_then as_active o) (λ a. taken.1.number ≡ a.message.number)) (sym there) refl,
    )

module _ {Q QH P PH K : Type 0} (action : K → ℕ → ℕ → BackpressureAction) (D : QH → Type 0) (E : PH → Type 0) where
  -- one call leads on
  leads_by : (event : PortEvent K) (old new : State Q QH P PH K) → PortStep action D E old event new → LeadsTo action D E old new
  unfolding LeadsTo
  leads_by event old new step = (event ∷ [], (new, step, refl))

  -- runs are joined
  pub joined : (events more : List (PortEvent K)) (old mid new : State Q QH P PH K) → PortRun action D E old events mid → PortRun action D E mid more new
      → PortRun action D E old (events ++ more) new
  joined [] more old mid new run then = subst (λ s. PortRun action D E s more new) run then
  joined (event ∷ events) more old mid new run then = (run.0, run.1, joined events more run.0 mid new run.2 then)

  -- nothing leads nowhere
  pub rests : (old new : State Q QH P PH K) → new ≡ old → LeadsTo action D E old new
  unfolding LeadsTo
  rests old new same = ([], same)

  -- what leads on from where something led
  pub leads_on : (old mid new : State Q QH P PH K) → LeadsTo action D E old mid → LeadsTo action D E mid new → LeadsTo action D E old new
  unfolding LeadsTo
  leads_on old mid new first then = (first.0 ++ then.0, joined first.0 then.0 old mid new first.1 then.1)

  -- ports are created
  client_leads : (settings : ClientSettings K) (old new : State Q QH P PH K) (result : Result ℕ ClientCreateError) → CreatesClient old settings result new
      → LeadsTo action D E old new
  client_leads settings old new (Ok n) made = leads_by (Command.CreateClient settings, Reply.Created n) old new made
  client_leads settings old new (Err error) made = rests old new made.1

  server_leads : (settings : ServerSettings K) (old new : State Q QH P PH K) (result : Result ℕ ServerCreateError) → CreatesServer old settings result new
      → LeadsTo action D E old new
  server_leads settings old new (Ok n) made = leads_by (Command.CreateServer settings, Reply.Created n) old new made
  server_leads settings old new (Err error) made = rests old new made.1

  pub client_made : {C : Type 0} (chooses : C → ℕ → ℕ → Type 0) (factory : Factory (ClientSettings K) C) (old new : State Q QH P PH K)
      (result : Result ℕ ClientCreateError) → CreatesClientBy chooses old factory result new → LeadsTo action D E old new
  client_made chooses factory old new result made = client_leads (record factory.settings { pool = made.0 }) old new result made.2

  pub server_made : {C : Type 0} (chooses : C → ℕ → ℕ → Type 0) (factory : Factory (ServerSettings K) C) (old new : State Q QH P PH K)
      (result : Result ℕ ServerCreateError) → CreatesServerBy chooses old factory result new → LeadsTo action D E old new
  server_made chooses factory old new result made = server_leads (record factory.settings { pool = made.0 }) old new result made.2

  -- messages are loaned
  pub request_loaned : (old new : State Q QH P PH K) (n len : ℕ) (result : Result ℕ LoanError) → LoansRequest D old n len result new
      → LeadsTo action D E old new
  request_loaned old new n len (Ok k) loans = leads_by (Command.Loan n len, Reply.Loaned k) old new (inl loans)
  request_loaned old new n len (Err error) loans = rests old new (some_and (client_at old n) _ loans).2.1

  pub response_loaned : (old new : State Q QH P PH K) (n len : ℕ) (result : Result ℕ LoanError) → LoansResponse E old n len result new
      → LeadsTo action D E old new
  response_loaned old new n len (Ok k) loans = leads_by (Command.Loan n len, Reply.Loaned k) old new (inr loans)
  response_loaned old new n len (Err error) loans = rests old new (open_active old n _ loans).4.1

  -- they are written
  pub request_written : (change : Content Q QH → Content Q QH) → KeepsAsked change → (old new : State Q QH P PH K) (n : ℕ)
      → new ≡ with_changed old n (with_request_content change) → LeadsTo action D E old new
  request_written change keeps old new n written = leads_by (Command.Set n 0 tt, Reply.Flag true) old new (inl (change, keeps, written))

  pub response_written : (change : Content P PH → Content P PH) → KeepsAsked change → (old new : State Q QH P PH K) (n : ℕ)
      → new ≡ with_changed old n (with_response_content change) → LeadsTo action D E old new
  response_written change keeps old new n written = leads_by (Command.Set n 0 tt, Reply.Flag true) old new (inr (change, keeps, written))

  -- they are taken as complete
  pub initialised : (old new : State Q QH P PH K) (n : ℕ) → new ≡ with_changed old n after_init → LeadsTo action D E old new
  initialised old new n init = leads_by (Command.AssumeInit n, Reply.Done) old new init

  -- both at once
  pub request_completed : (elements : List Q) (old new : State Q QH P PH K) (n : ℕ) → new ≡ with_complete_request old n elements
      → LeadsTo action D E old new
  request_completed elements old new n complete =
      let mid = with_changed old n (with_request_content (with_elements elements)) in
      leads_on old mid new (request_written (with_elements elements) (λ c. refl) old mid n refl) (initialised mid new n complete)

  pub response_completed : (elements : List P) (old new : State Q QH P PH K) (n : ℕ) → new ≡ with_complete_response old n elements
      → LeadsTo action D E old new
  response_completed elements old new n complete =
      let mid = with_changed old n (with_response_content (with_elements elements)) in
      leads_on old mid new (response_written (with_elements elements) (λ c. refl) old mid n refl) (initialised mid new n complete)

  -- loans that are complete at once
  pub complete_loaned : (Are : List Q → Type 0) (old new : State Q QH P PH K) (n len : ℕ) (result : Result ℕ LoanError)
      → LoansComplete D Are old n len result new → LeadsTo action D E old new
  complete_loaned Are old new n len (Ok k) loans =
      leads_on old loans.0 new (request_loaned old loans.0 n len (Ok k) loans.2) (request_completed loans.1 loans.0 new k loans.4)
  complete_loaned Are old new n len (Err error) loans = request_loaned old new n len (Err error) loans

  pub complete_response_loaned : (Are : List P → Type 0) (old new : State Q QH P PH K) (n len : ℕ) (result : Result ℕ LoanError)
      → LoansResponseComplete E Are old n len result new → LeadsTo action D E old new
  complete_response_loaned Are old new n len (Ok k) loans =
      leads_on old loans.0 new (response_loaned old loans.0 n len (Ok k) loans.2) (response_completed loans.1 loans.0 new k loans.4)
  complete_response_loaned Are old new n len (Err error) loans = response_loaned old new n len (Err error) loans

  -- a request is sent
  request_sent : (old new : State Q QH P PH K) (n : ℕ) (result : Result ℕ RequestSendError) → SendsRequest action old n result new
      → LeadsTo action D E old new
  request_sent old new n (Ok connections) sends = leads_by (Command.Send n, Reply.Pending n connections) old new (refl, sends)
  request_sent old new n (Err error) sends = leads_by (Command.Send n, Reply.RequestError error) old new sends

  pub pending_sent : (old new : State Q QH P PH K) (n : ℕ) (result : Result ℕ RequestSendError) → SendsPending action old n result new
      → LeadsTo action D E old new
  pending_sent old new n (Ok pending) sends = request_sent old new n (Ok sends.1.0) sends.1.1
  pending_sent old new n (Err error) sends = request_sent old new n (Err error) sends

  pub elements_sent : (old new : State Q QH P PH K) (n len : ℕ) (elements : List Q) (result : Result ℕ RequestSendError)
      → SendsElements D action old n len elements result new → LeadsTo action D E old new
  elements_sent old new n len elements (Ok pending) sends =
      let complete = with_complete_request sends.0 pending elements in
      leads_on old sends.0 new (request_loaned old sends.0 n len (Ok pending) sends.1)
      (leads_on sends.0 complete new (request_completed elements sends.0 complete pending refl) (request_sent complete new pending (Ok sends.2.0) sends.2.1))
  elements_sent old new n len elements (Err error) sends = ⊎_elim
      (λ refused. request_loaned old new n len (Err refused.0) refused.2)
      (λ unsent.
      let complete = with_complete_request unsent.0 unsent.1 elements in
      leads_on old unsent.0 new (request_loaned old unsent.0 n len (Ok unsent.1) unsent.2)
      (leads_on unsent.0 complete new (request_completed elements unsent.0 complete unsent.1 refl) (request_sent complete new unsent.1 (Err error) unsent.3)))
      sends

  -- a response is sent
  pub response_sent : {U : Type 0} (old new : State Q QH P PH K) (n : ℕ) (result : Result U SendError) → SendsResponse action old n result new
      → LeadsTo action D E old new
  response_sent old new n (Ok unit) sends = leads_by (Command.Send n, Reply.Sent n) old new (refl, sends)
  response_sent old new n (Err error) sends = leads_by (Command.Send n, Reply.SendError error) old new sends

  pub response_elements_sent : {U : Type 0} (old new : State Q QH P PH K) (n len : ℕ) (elements : List P) (result : Result U SendError)
      → SendsResponseElements E action old n len elements result new → LeadsTo action D E old new
  response_elements_sent {U = U} old new n len elements (Ok unit) sends =
      let complete = with_complete_response sends.0 sends.1 elements in
      leads_on old sends.0 new (response_loaned old sends.0 n len (Ok sends.1) sends.2)
      (leads_on sends.0 complete new (response_completed elements sends.0 complete sends.1 refl) (response_sent {U = U} complete new sends.1 (Ok unit) sends.3))
  response_elements_sent {U = U} old new n len elements (Err error) sends = ⊎_elim
      (λ refused. response_loaned old new n len (Err refused.0) refused.2)
      (λ unsent.
      let complete = with_complete_response unsent.0 unsent.1 elements in
      leads_on old unsent.0 new (response_loaned old unsent.0 n len (Ok unsent.1) unsent.2)
      (leads_on unsent.0 complete new (response_completed elements unsent.0 complete unsent.1 refl) (response_sent {U = U} complete new unsent.1 (Err error) unsent.3)))
      sends

  pub slice_responded : {U : Type 0} (Are : List P → Type 0) (old new : State Q QH P PH K) (n len : ℕ) (result : Result U SendError)
      → RespondsSlice E action Are old n len result new → LeadsTo action D E old new
  slice_responded {U = U} Are old new n len result responds = ⊎_elim
      (λ refused. response_loaned old new n len (Err refused.0) refused.2)
      (λ made. response_elements_sent {U = U} old new n _ made.0 result made.3) responds

  -- messages are received
  pub request_received : (old new : State Q QH P PH K) (n : ℕ) (result : Result (Option ℕ) ReceiveError) → ReceivesRequest old n result new
      → LeadsTo action D E old new
  request_received old new n (Ok (Some k)) receives =
      let active = received_active old new n k receives in
      leads_by (Command.Receive n, Reply.Active k active.0) old new (receives, active.1)
  request_received old new n (Ok None) receives = leads_by (Command.Receive n, Reply.Nothing) old new (inl receives)
  request_received old new n (Err error) receives = leads_by (Command.Receive n, Reply.ReceiveError error) old new (inl receives)

  pub response_received : (old new : State Q QH P PH K) (n : ℕ) (result : Result (Option ℕ) ReceiveError) → ReceivesResponse old n result new
      → LeadsTo action D E old new
  response_received old new n (Ok (Some k)) receives = leads_by (Command.Receive n, Reply.Response k) old new receives
  response_received old new n (Ok None) receives = leads_by (Command.Receive n, Reply.Nothing) old new (inr receives)
  response_received old new n (Err error) receives = leads_by (Command.Receive n, Reply.ReceiveError error) old new (inr receives)

  -- what is released ends, and a hint is set
  pub released : (old new : State Q QH P PH K) (n : ℕ) → new ≡ after_release old n → LeadsTo action D E old new
  released old new n ends = leads_by (Command.Release n, Reply.Done) old new ends

  pub hinted : (old new : State Q QH P PH K) (n : ℕ) → new ≡ with_changed old n with_hint → LeadsTo action D E old new
  hinted old new n hints = leads_by (Command.SetHint n, Reply.Done) old new hints

  -- calls that are several
  pub told : {U : Type 0} (old new : State Q QH P PH K) (n : ℕ) (value : Q) (result : Result U RequestSendError) → TellsCopy D action old n value result new
      → LeadsTo action D E old new
  told old new n value (Ok unit) tells =
      leads_on old tells.0 new (elements_sent old tells.0 n 1 (value ∷ []) (Ok tells.1) tells.2) (released tells.0 new tells.1 tells.3)
  told old new n value (Err error) tells = elements_sent old new n 1 (value ∷ []) (Err error) tells

  pub response_copied : (old new : State Q QH P PH K) (n : ℕ) (result : Result (Option P) ReceiveError) → ReceivesCopy old n result new
      → LeadsTo action D E old new
  response_copied old new n (Ok (Some value)) copies =
      leads_on old copies.0 new (response_received old copies.0 n (Ok (Some copies.1)) copies.2) (released copies.0 new copies.1 copies.4)
  response_copied old new n (Ok None) copies = response_received old new n (Ok None) copies
  response_copied old new n (Err error) copies = response_received old new n (Err error) copies

  pub received_or_ended : (old new : State Q QH P PH K) (n : ℕ) (result : Result (Option ℕ) (Option ReceiveError)) → ReceivesOrEnds old n result new
      → LeadsTo action D E old new
  received_or_ended old new n (Ok (Some response)) receives = response_received old new n (Ok (Some response)) receives
  received_or_ended old new n (Ok None) ends = response_received old new n (Ok None) ends.0
  received_or_ended old new n (Err None) none = response_received old new n (Ok None) none
  received_or_ended old new n (Err (Some error)) refused = response_received old new n (Err error) refused

  pub request_copied : (old new : State Q QH P PH K) (n : ℕ) (result : Result (Option Q) ReceiveError) → HearsCopy old n result new
      → LeadsTo action D E old new
  request_copied old new n (Ok (Some value)) copies =
      leads_on old copies.0 new (request_received old copies.0 n (Ok (Some copies.1)) copies.2) (released copies.0 new copies.1 copies.4)
  request_copied old new n (Ok None) copies = request_received old new n (Ok None) copies
  request_copied old new n (Err error) copies = request_received old new n (Err error) copies

  unfinished : (old new : State Q QH P PH K) (n : ℕ) (error : FinishError) → ReceivesNone old n error new → LeadsTo action D E old new
  unfinished old new n NoResponse none = response_copied old new n (Ok None) none.0
  unfinished old new n NoServer none = response_copied old new n (Ok None) none.0
  unfinished old new n (Receive error) none = response_copied old new n (Err error) none

  -- a request ends with the response that was received, or with its answer
  pub finished : (old new : State Q QH P PH K) (n : ℕ) (result : Result P (Refused ℕ FinishError)) → Finishes old n result new
      → LeadsTo action D E old new
  finished old new n (Ok value) ends = leads_on old ends.0 new (response_copied old ends.0 n (Ok (Some value)) ends.1) (released ends.0 new n ends.2)
  finished old new n (Err refused) kept = unfinished old new n refused.error kept.1

  pub answered_with : {F : Type 0} (g : Once F (Bor Q × Unit {0}) P) (f : F) (old new : State Q QH P PH K) (n : ℕ)
      (result : Result (Unit {0}) (CallError SendError)) → AnswersWith E action g f old n result new → LeadsTo action D E old new
  answered_with g f old new n (Ok unit) answers =
      leads_on old answers.0 new (response_elements_sent old answers.0 n 1 (answers.1.1 ∷ []) (Ok unit) answers.1.4) (released answers.0 new n answers.2)
  answered_with g f old new n (Err (Port error)) answers =
      leads_on old answers.0 new (response_elements_sent {U = Unit {0}} old answers.0 n 1 (answers.1.1 ∷ []) (Err error) answers.1.4) (released answers.0 new n answers.2)
  answered_with g f old new n (Err NumbersExhausted) answers = leads_on old answers.0 new (rests old answers.0 answers.1.1) (released answers.0 new n answers.2)

  -- what leads on is a step, of states that are known by other names
  pub stepped : {old shown new left : State Q QH P PH K} → shown ≡ old → left ≡ new → Keeps [] shown left → LeadsTo action D E shown left
      → Steps action D E [] old new
  stepped {old} {shown} {new} {left} is_old is_new keeps leads =
      subst (λ s. Steps action D E [] s new) is_old (subst (λ s. Steps action D E [] shown s) is_new (keeps, leads))

  -- so it is of a call that takes one number
  pub stepped_on : {old shown new left : State Q QH P PH K} {n m : ℕ} → shown ≡ old → m ≡ n → left ≡ new → Keeps (m ∷ []) shown left
      → LeadsTo action D E shown left → Steps action D E (n ∷ []) old new
  stepped_on {old} {shown} {new} {left} {n} {m} is_old is_n is_new keeps leads =
      subst (λ k. Steps action D E (k ∷ []) old new) is_n
      (subst (λ s. Steps action D E (m ∷ []) s new) is_old (subst (λ s. Steps action D E (m ∷ []) shown s) is_new (keeps, leads)))

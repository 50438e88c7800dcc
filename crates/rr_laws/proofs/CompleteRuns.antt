-- Each step keeps messages complete, and so does each run.
use Rattle.std.proofs.Common.{◌≡◌, ℕ, Bool, true, false, cond, not, List, [], ◌∷◌, length, Option, Some, None, MatchOption, Result, Ok, Err, refl, sym, ap, ◌∙◌, subst, ⊎_elim}
use Rattle.std.specs.Option.{option_map_or}
use Rattle.std.specs.Ordering.{nat_cmp}
use Rattle.std.specs.FinMap.{get, get-empty, insert, empty}
use Rattle.std.proofs.lemmas.Bool.{eq-eqb}
use Rattle.rr_table.proofs.MapLaws.{get-insert_same}
use Rattle.rr_slots.specs.declared.family.Family.{Family}
use Rattle.rr_protocol.specs.declared.kind.Kind.{Kind}
use Rattle.rr_protocol.specs.declared.limits.Limits.{Limits}
use Rattle.rr_protocol.specs.declared.settings.BackpressureAction.{BackpressureAction}
use Rattle.rr_protocol.specs.declared.settings.ClientSettings.{ClientSettings}
use Rattle.rr_protocol.specs.declared.settings.ServerSettings.{ServerSettings}
use Rattle.rr_protocol.specs.declared.error.ClientCreateError.{ClientCreateError}
use Rattle.rr_protocol.specs.declared.error.ServerCreateError.{ServerCreateError}
use Rattle.rr_protocol.specs.declared.error.LoanError.{LoanError}
use Rattle.rr_protocol.specs.Messages.{Content, RequestMessage, ResponseMessage, Handle, RequestMutUninit, RequestMut, PendingResponse, ActiveRequest, ResponseMutUninit, ResponseMut, Response, with_hint}
use Rattle.rr_protocol.specs.Writing.{is_complete, with_element, with_element_at, with_elements, with_user_header, with_request_content, with_response_content, after_init}
use Rattle.rr_protocol.specs.State.{State, empty_hub, handle_at, with_changed}
use Rattle.rr_protocol.specs.Queries.{kind_at}
use Rattle.rr_protocol.specs.Creation.{CreatesClient, CreatesServer}
use Rattle.rr_protocol.specs.Loans.{LoansRequest, LoansResponse}
use Rattle.rr_protocol.proofs.ListsLaws.{at-no_lists}
use Rattle.rr_protocol.specs.declared.command.Command.{Command}
use Rattle.rr_protocol.specs.declared.reply.Reply.{Reply}
use Rattle.rr_protocol.specs.Refusals.{content_in, is_incomplete, refusal_of_kind, refusal}
use Rattle.rr_protocol.specs.Step.{client_settings, server_settings, with_content, with_complete, Loans, Acts, Step}
use Rattle.rr_protocol.specs.Run.{Run}
use Rattle.rr_laws.specs.Complete.{HasComplete, MessagesComplete}
use Rattle.rr_laws.proofs.Opening.{some_and}
use Rattle.rr_laws.proofs.Tests.{not_due}
use Rattle.rr_laws.proofs.CompleteMessages.{KeepsComplete, complete_with, changed_there, changed_complete, pushed_complete, header_keeps, element_keeps, hint_complete, request_content_complete, response_content_complete}
use Rattle.rr_laws.proofs.CompleteReleases.{after_release_complete}
use Rattle.rr_laws.proofs.CompleteCalls.{same_complete, loans_request_complete, loans_response_complete, sends_request_complete, sends_response_complete, receives_request_complete, receives_response_complete, loaned_request, loaned_response, denied, IsReadyToInit, init_complete}

-- in the empty hub there is no message
pub empty_hub_complete : (Q QH P PH K : Type 0) (limits : Limits) (node_id : ℕ)
    → MessagesComplete (empty_hub {Q = Q} {QH = QH} {P = P} {PH = PH} {K = K} limits node_id)
empty_hub_complete Q QH P PH K limits node_id =
    record {
      in_handles = λ n h e. absurd (let none : get (empty {X = Handle Q QH P PH} {R = nat_cmp}) n ≡ None = get-empty nat_cmp n in cc);
      in_requests = λ key. rw at-no_lists tt;
      in_responses = λ key. rw at-no_lists tt;
    }

affirmed : (b : Bool) → not b ≡ false → b ≡ true
affirmed true e = refl
affirmed false e = absurd (cc)

module _ {T H : Type 0} where
  content_complete : (change : Content T H → Content T H) → KeepsComplete change → (h : Handle T H T H) → HasComplete h
      → HasComplete (with_request_content change (with_response_content change h))
  content_complete change keeps h e =
      request_content_complete change keeps (with_response_content change h) (response_content_complete change keeps h e)

  -- one more element of a message that was not complete
  appended : (element : T) (h : Handle T H T H) → is_complete (content_in h) ≡ false → HasComplete h
      → HasComplete (with_request_content (with_element element) (with_response_content (with_element element) h))
  appended element (RequestMutUninit m) fresh e = e
  appended element (RequestMut m) fresh e = absurd (let t : true ≡ false = sym e ∙ fresh in cc)
  appended element (PendingResponse p) fresh e = e
  appended element (ActiveRequest a) fresh e = e
  appended element (ResponseMutUninit m) fresh e = e
  appended element (ResponseMut m) fresh e = absurd (let t : true ≡ false = sym e ∙ fresh in cc)
  appended element (Response m) fresh e = e

module _ {T H K : Type 0} (s : State T H T H K) (all : MessagesComplete s) where
  -- an element was appended, or the message was complete
  push_complete : (n : ℕ) (element : T) (pushed : Bool) (new : State T H T H K) (h : Handle T H T H) → handle_at s n ≡ Some h
      → pushed ≡ not (is_complete (content_in h)) → new ≡ cond pushed (with_content s n (with_element element)) s → MessagesComplete new
  push_complete n element pushed new h is told then =
      pushed_complete s n _ pushed new then (λ x e c yes. appended element x
      (let same : Some h ≡ Some x = sym is ∙ e in let one : h ≡ x = (cc) in
      sym (ap (λ (y : Handle T H T H). is_complete (content_in y)) one) ∙ denied pushed (is_complete (content_in h)) told yes) c) all

  -- what a message says changed, but for how long it is
  content_changed : (n : ℕ) (change : Content T H → Content T H) → KeepsComplete change → MessagesComplete (with_content s n change)
  content_changed n change keeps = changed_complete s n _ (λ h e c. content_complete change keeps h c) all

  -- an element changed, or there is none
  set_complete : (n i : ℕ) (element : T) (there : Bool) (new : State T H T H K)
      → new ≡ cond there (with_content s n (with_element_at i element)) s → MessagesComplete new
  set_complete n i element there new is = pushed_complete s n _ there new is
      (λ h e c yes. content_complete (with_element_at i element) (element_keeps i element) h c) all

  -- as many elements were written to a request as it asks for, and it was taken as complete
  whole_request : (k : ℕ) (m : RequestMessage T H) → handle_at s k ≡ Some (RequestMutUninit m) → (elements : List T)
      → length elements ≡ m.content.asked_len → MessagesComplete (with_complete s k elements)
  whole_request k m is elements long =
      let written : RequestMessage T H = record m { content = with_elements elements m.content } in
      let mid : State T H T H K = record s { handles = insert s.handles k (RequestMutUninit written) } in
      let first : with_content s k (with_elements elements) ≡ mid = changed_there s k _ (RequestMutUninit m) is in
      let second = changed_there mid k after_init (RequestMutUninit written) (get-insert_same s.handles k _ k refl) in
      subst (λ (x : State T H T H K). MessagesComplete (with_changed x k after_init)) (sym first)
      (subst (λ (x : State T H T H K). MessagesComplete x) (sym second)
      (complete_with mid.handles s.requests s.responses
      (complete_with s.handles s.requests s.responses all k (RequestMutUninit written) tt) k (RequestMut written) (eq-eqb _ _ long)))

  -- the same of a response
  whole_response : (k : ℕ) (m : ResponseMessage T H) → handle_at s k ≡ Some (ResponseMutUninit m) → (elements : List T)
      → length elements ≡ m.content.asked_len → MessagesComplete (with_complete s k elements)
  whole_response k m is elements long =
      let written : ResponseMessage T H = record m { content = with_elements elements m.content } in
      let mid : State T H T H K = record s { handles = insert s.handles k (ResponseMutUninit written) } in
      let first : with_content s k (with_elements elements) ≡ mid = changed_there s k _ (ResponseMutUninit m) is in
      let second = changed_there mid k after_init (ResponseMutUninit written) (get-insert_same s.handles k _ k refl) in
      subst (λ (x : State T H T H K). MessagesComplete (with_changed x k after_init)) (sym first)
      (subst (λ (x : State T H T H K). MessagesComplete x) (sym second)
      (complete_with mid.handles s.requests s.responses
      (complete_with s.handles s.requests s.responses all k (ResponseMutUninit written) tt) k (ResponseMut written) (eq-eqb _ _ long)))

  -- a message that is not incomplete was taken as complete
  taken_complete : (n : ℕ) → option_map_or (λ handle. not (is_complete (content_in handle))) (handle_at s n) false ≡ false
      → MessagesComplete (with_changed s n after_init)
  taken_complete n closed = init_complete s all n ready
    where
      ready : (h : Handle T H T H) → handle_at s n ≡ Some h → IsReadyToInit h
      ready h e =
          let full : is_complete (content_in h) ≡ true = affirmed _
          (sym (ap (λ o. option_map_or (λ handle. not (is_complete (content_in handle))) o false) e) ∙ closed) in (
            λ m is. sym (ap (λ (x : Handle T H T H). is_complete (content_in x)) is) ∙ full,
            λ m is. sym (ap (λ (x : Handle T H T H). is_complete (content_in x)) is) ∙ full,
          )

  -- a client was created, or refused
  creates_client : (settings : ClientSettings K) (result : Result ℕ ClientCreateError) (new : State T H T H K)
      → CreatesClient s settings result new → MessagesComplete new
  creates_client settings (Ok number) new made = subst (λ (x : State T H T H K). MessagesComplete x) (sym made.2) all
  creates_client settings (Err error) new made = same_complete s all new made.1

  -- a server was
  creates_server : (settings : ServerSettings K) (result : Result ℕ ServerCreateError) (new : State T H T H K)
      → CreatesServer s settings result new → MessagesComplete new
  creates_server settings (Ok number) new made = subst (λ (x : State T H T H K). MessagesComplete x) (sym made.2) all
  creates_server settings (Err error) new made = same_complete s all new made.1

-- what is not refused is not incomplete
not_incomplete : {T H K : Type 0} (family : Family) (s : State T H T H K) (command : Command T H K) → refusal family s command ≡ None
    → is_incomplete s command ≡ false
not_incomplete family s (Command.AssumeInit n) due = go (kind_at s n) due
  where
    go : (o : Option Kind) → option_map_or (refusal_of_kind family s (Command.AssumeInit n)) o (Some Reply.Unknown) ≡ None
        → is_incomplete s (Command.AssumeInit n) ≡ false
    go None due = absurd (cc)
    go (Some kind) due = (not_due _ _ _ ((not_due _ _ _ due).1)).0
not_incomplete family s command due = refl

module _ {T H K : Type 0} (action : K → ℕ → ℕ → BackpressureAction) (IsDefaultElement : T → Type 0) (IsDefaultHeader : H → Type 0)
    (family : Family) where
  loans_complete : (old : State T H T H K) → MessagesComplete old
      → (n len : ℕ) (result : Result ℕ LoanError) (new : State T H T H K) →
      Loans action IsDefaultElement IsDefaultHeader family old n len result new → MessagesComplete new
  loans_complete old all n len result new loans =
      ⊎_elim (loans_request_complete old all IsDefaultHeader n len result new)
      (loans_response_complete old all IsDefaultHeader n len result new) loans

  -- a loan, and as many elements as were asked for
  request_whole : (old : State T H T H K) → MessagesComplete old → (n k : ℕ) (mid : State T H T H K) (elements : List T)
      → LoansRequest IsDefaultHeader old n (length elements) (Ok k) mid → MessagesComplete (with_complete mid k elements)
  request_whole old all n k mid elements loans =
      let m = loaned_request old IsDefaultHeader n (length elements) k mid loans in
      whole_request mid (loans_request_complete old all IsDefaultHeader n _ (Ok k) mid loans) k m.0 m.1 elements (sym m.2)

  -- of a response
  response_whole : (old : State T H T H K) → MessagesComplete old → (n k : ℕ) (mid : State T H T H K) (elements : List T)
      → LoansResponse IsDefaultHeader old n (length elements) (Ok k) mid → MessagesComplete (with_complete mid k elements)
  response_whole old all n k mid elements loans =
      let m = loaned_response old IsDefaultHeader n (length elements) k mid loans in
      whole_response mid (loans_response_complete old all IsDefaultHeader n _ (Ok k) mid loans) k m.0 m.1 elements (sym m.2)

  -- of either
  either_whole : (old : State T H T H K) → MessagesComplete old → (n k : ℕ) (mid : State T H T H K) (elements : List T)
      → Loans action IsDefaultElement IsDefaultHeader family old n (length elements) (Ok k) mid
      → MessagesComplete (with_complete mid k elements)
  either_whole old all n k mid elements loans =
      ⊎_elim (request_whole old all n k mid elements) (response_whole old all n k mid elements) loans

  -- after any command that acts, if what it takes as complete is not incomplete
  pub acts_complete : (old : State T H T H K) → MessagesComplete old
      → (command : Command T H K) (reply : Reply T H) (new : State T H T H K) → is_incomplete old command ≡ false →
      Acts action IsDefaultElement IsDefaultHeader family old command reply new → MessagesComplete new
  acts_complete old all (Command.CreateClient settings) (Reply.Created n) new closed acts =
      creates_client old all (client_settings family settings) (Ok n) new acts
  acts_complete old all (Command.CreateClient settings) (Reply.ClientError e) new closed acts =
      creates_client old all (client_settings family settings) (Err e) new acts
  acts_complete old all (Command.CreateClient settings) Reply.NoMemory new closed acts = same_complete old all new acts
  acts_complete old all (Command.CreateServer settings) (Reply.Created n) new closed acts =
      creates_server old all (server_settings family settings) (Ok n) new acts
  acts_complete old all (Command.CreateServer settings) (Reply.ServerError e) new closed acts =
      creates_server old all (server_settings family settings) (Err e) new acts
  acts_complete old all (Command.CreateServer settings) Reply.NoMemory new closed acts = same_complete old all new acts
  acts_complete old all (Command.Loan n len) (Reply.Loaned k) new closed acts = loans_complete old all n len (Ok k) new acts
  acts_complete old all (Command.Loan n len) (Reply.LoanError e) new closed acts = loans_complete old all n len (Err e) new acts
  acts_complete old all (Command.Loan n len) Reply.NoMemory new closed acts = same_complete old all new acts
  acts_complete old all (Command.LoanDefault n len) (Reply.Loaned k) new closed acts =
      same_complete (with_complete acts.0 k acts.1) (either_whole old all n k acts.0 acts.1
      (subst (λ l. Loans action IsDefaultElement IsDefaultHeader family old n l (Ok k) acts.0) (sym acts.3) acts.2)) new acts.5
  acts_complete old all (Command.LoanDefault n len) (Reply.LoanError e) new closed acts = loans_complete old all n len (Err e) new acts
  acts_complete old all (Command.LoanDefault n len) Reply.NoMemory new closed acts = same_complete old all new acts
  acts_complete old all (Command.SendCopy n v) (Reply.Pending k connections) new closed acts =
      sends_request_complete (with_complete acts.0 k (v ∷ [])) (request_whole old all n k acts.0 (v ∷ []) acts.1) k action
      (Ok connections) new acts.2
  acts_complete old all (Command.SendCopy n v) (Reply.RequestError e) new closed acts =
      ⊎_elim
      (λ loan. loans_request_complete old all IsDefaultHeader n 1 (Err loan.0) new loan.1)
      (λ send. sends_request_complete (with_complete send.0 send.1 (v ∷ []))
      (request_whole old all n send.1 send.0 (v ∷ []) send.2) send.1 action (Err e) new send.3)
      acts
  acts_complete old all (Command.SendCopy n v) (Reply.Sent k) new closed acts =
      sends_response_complete (with_complete acts.0 k (v ∷ [])) (response_whole old all n k acts.0 (v ∷ []) acts.1) k action
      (Ok k) new acts.2
  acts_complete old all (Command.SendCopy n v) (Reply.SendError e) new closed acts =
      ⊎_elim
      (λ loan. loans_response_complete old all IsDefaultHeader n 1 (Err loan.0) new loan.1)
      (λ send. sends_response_complete (with_complete send.0 send.1 (v ∷ []))
      (response_whole old all n send.1 send.0 (v ∷ []) send.2) {U = ℕ} send.1 action (Err e) new send.3)
      acts
  acts_complete old all (Command.SendCopy n v) Reply.NoMemory new closed acts = same_complete old all new acts
  acts_complete old all (Command.Push n v) (Reply.Flag b) new closed acts =
      let o = some_and (handle_at old n) _ acts in push_complete old all n v b new o.0 o.1 o.2.0 o.2.1
  acts_complete old all (Command.Set n i v) (Reply.Flag b) new closed acts =
      set_complete old all n i v b new ((some_and (handle_at old n) _ acts).2.1)
  acts_complete old all (Command.SetUserHeader n h) Reply.Done new closed acts =
      same_complete _ (content_changed old all n (with_user_header h) (header_keeps h)) new acts
  acts_complete old all (Command.AssumeInit n) Reply.Done new closed acts = same_complete _ (taken_complete old all n closed) new acts
  acts_complete old all (Command.IsDeliverable n) (Reply.Flag b) new closed acts = same_complete old all new acts.1
  acts_complete old all (Command.Send n) (Reply.Pending k connections) new closed acts =
      sends_request_complete old all n action (Ok connections) new acts.1
  acts_complete old all (Command.Send n) (Reply.RequestError e) new closed acts = sends_request_complete old all n action (Err e) new acts
  acts_complete old all (Command.Send n) (Reply.Sent k) new closed acts = sends_response_complete old all n action (Ok k) new acts.1
  acts_complete old all (Command.Send n) (Reply.SendError e) new closed acts =
      sends_response_complete old all {U = ℕ} n action (Err e) new acts
  acts_complete old all (Command.Receive n) (Reply.Active a r) new closed acts =
      receives_request_complete old all n (Ok (Some a)) new acts.0
  acts_complete old all (Command.Receive n) (Reply.Response k) new closed acts = receives_response_complete old all n (Ok (Some k)) new acts
  acts_complete old all (Command.Receive n) Reply.Nothing new closed acts =
      ⊎_elim (receives_request_complete old all n (Ok None) new) (receives_response_complete old all n (Ok None) new) acts
  acts_complete old all (Command.Receive n) (Reply.ReceiveError e) new closed acts =
      ⊎_elim (receives_request_complete old all n (Err e) new) (receives_response_complete old all n (Err e) new) acts
  acts_complete old all (Command.Receive n) Reply.NoMemory new closed acts = same_complete old all new acts
  acts_complete old all (Command.HasEntries n) (Reply.Flag b) new closed acts = same_complete old all new acts.1
  acts_complete old all (Command.IsConnected n) (Reply.Flag b) new closed acts = same_complete old all new acts.1
  acts_complete old all (Command.SetHint n) Reply.Done new closed acts =
      same_complete _ (changed_complete old n with_hint (λ h e c. hint_complete h c) all) new acts
  acts_complete old all (Command.HasHint n) (Reply.Flag b) new closed acts = same_complete old all new acts.1
  acts_complete old all (Command.Servers n) (Reply.Count c) new closed acts = same_complete old all new acts.1
  acts_complete old all (Command.Header n) (Reply.RequestHeader h) new closed acts = same_complete old all new acts.1
  acts_complete old all (Command.Header n) (Reply.ResponseHeader h) new closed acts = same_complete old all new acts.1
  acts_complete old all (Command.UserHeader n) (Reply.UserHeader h) new closed acts = same_complete old all new acts.1
  acts_complete old all (Command.Payload n) (Reply.Payload elements) new closed acts = same_complete old all new acts.1
  acts_complete old all (Command.Payload n) Reply.NoMemory new closed acts = same_complete old all new acts
  acts_complete old all (Command.Origin n) (Reply.Id m) new closed acts = same_complete old all new acts.1
  acts_complete old all (Command.Strategy n) (Reply.Strategy s) new closed acts = same_complete old all new acts.1
  acts_complete old all (Command.MaxSliceLen n) (Reply.Count c) new closed acts = same_complete old all new acts.1
  acts_complete old all (Command.UpdateConnections n) Reply.Done new closed acts = same_complete old all new acts
  acts_complete old all (Command.Release n) Reply.Done new closed acts = same_complete _ (after_release_complete old n all) new acts
  acts_complete old all command reply new closed acts = absurd acts

  -- after any step
  pub step_complete : (old : State T H T H K) → MessagesComplete old → (command : Command T H K) (reply : Reply T H)
      (new : State T H T H K) → Step action IsDefaultElement IsDefaultHeader family old command reply new → MessagesComplete new
  step_complete old all command reply new step = go (refusal family old command) refl step
    where
      go : (o : Option (Reply T H)) → refusal family old command ≡ o
          → MatchOption o (Acts action IsDefaultElement IsDefaultHeader family old command reply new)
          (λ refused. (reply ≡ refused) × (new ≡ old)) → MessagesComplete new
      go None due step = acts_complete old all command reply new (not_incomplete family old command due) step
      go (Some refused) due step = same_complete old all new step.1

  -- whatever is run, messages stay complete
  pub run_complete : (old : State T H T H K) → MessagesComplete old → (commands : List (Command T H K)) (replies : List (Reply T H))
      (new : State T H T H K) → Run action IsDefaultElement IsDefaultHeader family old commands replies new → MessagesComplete new
  run_complete old all [] [] new run = same_complete old all new run
  run_complete old all (command ∷ commands) (reply ∷ replies) new run =
      run_complete run.0 (step_complete old all command reply run.0 run.1) commands replies new run.2
  run_complete old all [] (reply ∷ replies) new run = absurd run
  run_complete old all (command ∷ commands) [] new run = absurd run

  -- in every state that a run reaches from the empty hub
  pub complete_from_empty : (limits : Limits) (node_id : ℕ) (commands : List (Command T H K)) (replies : List (Reply T H))
      (s : State T H T H K) → Run action IsDefaultElement IsDefaultHeader family (empty_hub limits node_id) commands replies s
      → MessagesComplete s
  complete_from_empty limits node_id commands replies s run =
      run_complete (empty_hub limits node_id) (empty_hub_complete T H T H K limits node_id) commands replies s run

-- Each step keeps what each call keeps, so what holds in a reached state.
use Rattle.std.proofs.Common.{◌≡◌, ℕ, Bool, true, false, cond, List, [], ◌∷◌, Option, Some, None, MatchOption, Result, Ok, Err, sym, subst, ⊎_elim, ap, refl, ◌∙◌}
use Rattle.rr_slots.specs.declared.family.Family.{Family}
use Rattle.rr_protocol.specs.declared.settings.BackpressureAction.{BackpressureAction}
use Rattle.rr_protocol.specs.declared.error.LoanError.{LoanError}
use Rattle.rr_protocol.specs.declared.error.SendError.{SendError}
use Rattle.rr_protocol.specs.declared.error.RequestSendError.{RequestSendError}
use Rattle.rr_protocol.specs.Messages.{Content, with_hint}
use Rattle.rr_protocol.specs.Writing.{with_element, with_element_at, with_user_header, after_init, with_response_content, with_request_content, with_elements}
use Rattle.rr_protocol.specs.State.{State, handle_at}
use Rattle.rr_protocol.specs.Loans.{LoansResponse, LoansRequest}
use Rattle.rr_protocol.specs.Sends.{SendsResponse, SendsRequest}
use Rattle.rr_protocol.specs.declared.command.Command.{Command}
use Rattle.rr_protocol.specs.declared.reply.Reply.{Reply}
use Rattle.rr_protocol.specs.Refusals.{refusal}
use Rattle.rr_protocol.specs.Step.{client_settings, server_settings, with_content, with_complete, Loans, Acts, Step}
use Rattle.rr_protocol.specs.Run.{Run}
use Rattle.rr_laws.specs.Reached.{IsReached}
use Rattle.rr_laws.proofs.Opening.{some_and}
use Rattle.rr_laws.proofs.Loaning.{loans_request_reached, loans_response_reached}
use Rattle.rr_laws.proofs.Changing.{content_reached, complete_reached, hint_role, init_role, content_role}
use Rattle.rr_laws.proofs.Calling.{KeptByCalls, reached_kept}

module _ {T H K : Type 0} (action : K → ℕ → ℕ → BackpressureAction) (IsDefaultElement : T → Type 0) (IsDefaultHeader : H → Type 0)
    (family : Family) {Holds : State T H T H K → Type 0} {MayRelease : State T H T H K → ℕ → Type 0}
    (kept : KeptByCalls action IsDefaultHeader IsDefaultHeader Holds MayRelease) where
  -- a state that is another one
  same : (old new : State T H T H K) → new ≡ old → Holds old → Holds new
  same old new is holds = subst (λ (x : State T H T H K). Holds x) (sym is) holds

  -- a message says something else
  content : (s : State T H T H K) → IsReached s → Holds s → (n : ℕ) (change : Content T H → Content T H) → Holds (with_content s n change)
  content s fits holds n change = kept.change s fits holds n (λ h. with_request_content change (with_response_content change h))
      (content_role change)

  -- all elements of a message are written
  complete : (s : State T H T H K) → IsReached s → Holds s → (n : ℕ) (elements : List T) → Holds (with_complete s n elements)
  complete s fits holds n elements =
      kept.change (with_content s n (with_elements elements)) (content_reached s n (with_elements elements) fits)
      (content s fits holds n (with_elements elements)) n after_init init_role

  -- an element is written, or not
  written : (old : State T H T H K) → IsReached old → Holds old → (new : State T H T H K) (n : ℕ) (b : Bool)
      (change : Content T H → Content T H) → new ≡ cond b (with_content old n change) old → Holds new
  written old fits holds new n true change is = same (with_content old n change) new is (content old fits holds n change)
  written old fits holds new n false change is = same old new is holds

  -- a loan of a request or of a response, also one that is refused
  loans : (old : State T H T H K) → IsReached old → Holds old → (n len : ℕ) (result : Result ℕ LoanError) (new : State T H T H K)
      → Loans action IsDefaultElement IsDefaultHeader family old n len result new → Holds new
  loans old fits holds n len result new loan =
      ⊎_elim (kept.loan_request old fits holds n len result new) (kept.loan_response old fits holds n len result new) loan

  -- a loan of a request, the one element, and the send
  sends_request : (old : State T H T H K) → IsReached old → Holds old → (n k : ℕ) (v : T) (result : Result ℕ RequestSendError)
      (mid new : State T H T H K) → LoansRequest IsDefaultHeader old n 1 (Ok k) mid
      → SendsRequest action (with_complete mid k (v ∷ [])) k result new → Holds new
  sends_request old fits holds n k v result mid new loan send =
      let mid_fits = loans_request_reached old fits IsDefaultHeader n 1 (Ok k) mid loan in
      kept.send_request (with_complete mid k (v ∷ [])) (complete_reached mid k (v ∷ []) mid_fits)
      (complete mid mid_fits (kept.loan_request old fits holds n 1 (Ok k) mid loan) k (v ∷ [])) k result new send

  -- the same of a response
  sends_response : (old : State T H T H K) → IsReached old → Holds old → (n k : ℕ) (v : T) (result : Result ℕ SendError)
      (mid new : State T H T H K) → LoansResponse IsDefaultHeader old n 1 (Ok k) mid
      → SendsResponse action (with_complete mid k (v ∷ [])) k result new → Holds new
  sends_response old fits holds n k v result mid new loan send =
      let mid_fits = loans_response_reached old fits IsDefaultHeader n 1 (Ok k) mid loan in
      kept.send_response (with_complete mid k (v ∷ [])) (complete_reached mid k (v ∷ []) mid_fits)
      (complete mid mid_fits (kept.loan_response old fits holds n 1 (Ok k) mid loan) k (v ∷ [])) k result new send

  -- each command that acts keeps it, if what it releases may be released
  acts_keep : (old : State T H T H K) → IsReached old → Holds old → (command : Command T H K) (reply : Reply T H) (new : State T H T H K)
      → ((n : ℕ) → command ≡ Command.Release n → MayRelease old n) →
      Acts action IsDefaultElement IsDefaultHeader family old command reply new → Holds new
  acts_keep old fits holds (Command.CreateClient settings) (Reply.Created n) new may acts =
      kept.client old fits holds (client_settings family settings) (Ok n) new acts
  acts_keep old fits holds (Command.CreateClient settings) (Reply.ClientError e) new may acts =
      kept.client old fits holds (client_settings family settings) (Err e) new acts
  acts_keep old fits holds (Command.CreateClient settings) Reply.NoMemory new may acts = same old new acts holds
  acts_keep old fits holds (Command.CreateServer settings) (Reply.Created n) new may acts =
      kept.server old fits holds (server_settings family settings) (Ok n) new acts
  acts_keep old fits holds (Command.CreateServer settings) (Reply.ServerError e) new may acts =
      kept.server old fits holds (server_settings family settings) (Err e) new acts
  acts_keep old fits holds (Command.CreateServer settings) Reply.NoMemory new may acts = same old new acts holds
  acts_keep old fits holds (Command.Loan n len) (Reply.Loaned k) new may acts = loans old fits holds n len (Ok k) new acts
  acts_keep old fits holds (Command.Loan n len) (Reply.LoanError e) new may acts = loans old fits holds n len (Err e) new acts
  acts_keep old fits holds (Command.Loan n len) Reply.NoMemory new may acts = same old new acts holds
  acts_keep old fits holds (Command.LoanDefault n len) (Reply.Loaned k) new may acts =
      let mid_fits = ⊎_elim (loans_request_reached old fits IsDefaultHeader n len (Ok k) acts.0)
      (loans_response_reached old fits IsDefaultHeader n len (Ok k) acts.0) acts.2 in
      same _ new acts.5 (complete acts.0 mid_fits (loans old fits holds n len (Ok k) acts.0 acts.2) k acts.1)
  acts_keep old fits holds (Command.LoanDefault n len) (Reply.LoanError e) new may acts = loans old fits holds n len (Err e) new acts
  acts_keep old fits holds (Command.LoanDefault n len) Reply.NoMemory new may acts = same old new acts holds
  acts_keep old fits holds (Command.SendCopy n v) (Reply.Pending k connections) new may acts =
      sends_request old fits holds n k v (Ok connections) acts.0 new acts.1 acts.2
  acts_keep old fits holds (Command.SendCopy n v) (Reply.RequestError e) new may acts =
      ⊎_elim (λ loan. kept.loan_request old fits holds n 1 (Err loan.0) new loan.1) (λ send. sends_request old fits holds n send.1 v (Err
      e) send.0 new send.2 send.3) acts
  acts_keep old fits holds (Command.SendCopy n v) (Reply.Sent k) new may acts =
      sends_response old fits holds n k v (Ok k) acts.0 new acts.1 acts.2
  acts_keep old fits holds (Command.SendCopy n v) (Reply.SendError e) new may acts =
      ⊎_elim (λ loan. kept.loan_response old fits holds n 1 (Err loan.0) new loan.1) (λ send. sends_response old fits holds n send.1 v (Err
      e) send.0 new send.2 send.3) acts
  acts_keep old fits holds (Command.SendCopy n v) Reply.NoMemory new may acts = same old new acts holds
  acts_keep old fits holds (Command.Push n v) (Reply.Flag b) new may acts =
      written old fits holds new n b (with_element v) ((some_and (handle_at old n) _ acts).2.1)
  acts_keep old fits holds (Command.Set n i v) (Reply.Flag b) new may acts =
      written old fits holds new n b (with_element_at i v) ((some_and (handle_at old n) _ acts).2.1)
  acts_keep old fits holds (Command.SetUserHeader n h) Reply.Done new may acts =
      same _ new acts (content old fits holds n (with_user_header h))
  acts_keep old fits holds (Command.AssumeInit n) Reply.Done new may acts =
      same _ new acts (kept.change old fits holds n after_init init_role)
  acts_keep old fits holds (Command.IsDeliverable n) (Reply.Flag b) new may acts = same old new acts.1 holds
  acts_keep old fits holds (Command.Send n) (Reply.Pending k connections) new may acts =
      kept.send_request old fits holds n (Ok connections) new acts.1
  acts_keep old fits holds (Command.Send n) (Reply.RequestError e) new may acts = kept.send_request old fits holds n (Err e) new acts
  acts_keep old fits holds (Command.Send n) (Reply.Sent k) new may acts = kept.send_response old fits holds n (Ok k) new acts.1
  acts_keep old fits holds (Command.Send n) (Reply.SendError e) new may acts = kept.send_response old fits holds n (Err e) new acts
  acts_keep old fits holds (Command.Receive n) (Reply.Active a r) new may acts =
      kept.receive_request old fits holds n (Ok (Some a)) new acts.0
  acts_keep old fits holds (Command.Receive n) (Reply.Response k) new may acts =
      kept.receive_response old fits holds n (Ok (Some k)) new acts
  acts_keep old fits holds (Command.Receive n) Reply.Nothing new may acts =
      ⊎_elim (kept.receive_request old fits holds n (Ok None) new) (kept.receive_response old fits holds n (Ok None) new) acts
  acts_keep old fits holds (Command.Receive n) (Reply.ReceiveError e) new may acts =
      ⊎_elim (kept.receive_request old fits holds n (Err e) new) (kept.receive_response old fits holds n (Err e) new) acts
  acts_keep old fits holds (Command.Receive n) Reply.NoMemory new may acts = same old new acts holds
  acts_keep old fits holds (Command.HasEntries n) (Reply.Flag b) new may acts = same old new acts.1 holds
  acts_keep old fits holds (Command.IsConnected n) (Reply.Flag b) new may acts = same old new acts.1 holds
  acts_keep old fits holds (Command.SetHint n) Reply.Done new may acts = same _ new acts (kept.change old fits holds n with_hint hint_role)
  acts_keep old fits holds (Command.HasHint n) (Reply.Flag b) new may acts = same old new acts.1 holds
  acts_keep old fits holds (Command.Servers n) (Reply.Count c) new may acts = same old new acts.1 holds
  acts_keep old fits holds (Command.Header n) (Reply.RequestHeader h) new may acts = same old new acts.1 holds
  acts_keep old fits holds (Command.Header n) (Reply.ResponseHeader h) new may acts = same old new acts.1 holds
  acts_keep old fits holds (Command.UserHeader n) (Reply.UserHeader h) new may acts = same old new acts.1 holds
  acts_keep old fits holds (Command.Payload n) (Reply.Payload elements) new may acts = same old new acts.1 holds
  acts_keep old fits holds (Command.Payload n) Reply.NoMemory new may acts = same old new acts holds
  acts_keep old fits holds (Command.Origin n) (Reply.Id m) new may acts = same old new acts.1 holds
  acts_keep old fits holds (Command.Strategy n) (Reply.Strategy s) new may acts = same old new acts.1 holds
  acts_keep old fits holds (Command.MaxSliceLen n) (Reply.Count c) new may acts = same old new acts.1 holds
  acts_keep old fits holds (Command.UpdateConnections n) Reply.Done new may acts = same old new acts holds
  acts_keep old fits holds (Command.Release n) Reply.Done new may acts = same _ new acts (kept.release old fits holds n (may n refl))
  acts_keep old fits holds command reply new may acts = absurd acts

  -- and so does each step
  pub step_keeps : (old : State T H T H K) → IsReached old → Holds old
      → ((n : ℕ) → refusal family old (Command.Release n) ≡ None → MayRelease old n) →
      (command : Command T H K) (reply : Reply T H) (new : State T H T H K)
      → Step action IsDefaultElement IsDefaultHeader family old command reply new → Holds new
  step_keeps old fits holds may command reply new step = go (refusal family old command) refl step
    where
      go : (o : Option (Reply T H)) → refusal family old command ≡ o
          → MatchOption o (Acts action IsDefaultElement IsDefaultHeader family old command reply new)
          (λ refused. (reply ≡ refused) × (new ≡ old)) → Holds new
      go None due step = acts_keep old fits holds command reply new (λ n is. may n (sym (ap (refusal family old) is) ∙ due)) step
      go (Some refused) due step = same old new step.1 holds

module _ {T H K : Type 0} (action : K → ℕ → ℕ → BackpressureAction) (IsDefaultElement : T → Type 0) (IsDefaultHeader : H → Type 0)
    (family : Family) where
  -- after any step
  pub step_reached : (old : State T H T H K) → IsReached old → (command : Command T H K) (reply : Reply T H) (new : State T H T H K) →
      Step action IsDefaultElement IsDefaultHeader family old command reply new → IsReached new
  step_reached old fits command reply new step = step_keeps action IsDefaultElement IsDefaultHeader family
      (reached_kept action IsDefaultHeader IsDefaultHeader) old fits fits (λ n due. tt) command reply new step

  -- whatever is run, what each call keeps holds after it
  pub run_keeps : {Holds : State T H T H K → Type 0} {MayRelease : State T H T H K → ℕ → Type 0}
      → KeptByCalls action IsDefaultHeader IsDefaultHeader Holds MayRelease →
      ((s : State T H T H K) → IsReached s → (n : ℕ) → refusal family s (Command.Release n) ≡ None → MayRelease s n) →
      (old : State T H T H K) → IsReached old → Holds old → (commands : List (Command T H K)) (replies : List (Reply T H))
      (new : State T H T H K) → Run action IsDefaultElement IsDefaultHeader family old commands replies new → Holds new
  run_keeps {Holds} kept may old fits holds [] [] new run = subst (λ (x : State T H T H K). Holds x) (sym run) holds
  run_keeps kept may old fits holds (command ∷ commands) (reply ∷ replies) new run =
      run_keeps kept may run.0 (step_reached old fits command reply run.0 run.1)
      (step_keeps action IsDefaultElement IsDefaultHeader family kept old fits holds (may old fits) command reply run.0 run.1) commands
      replies new run.2
  run_keeps kept may old fits holds [] (reply ∷ replies) new run = absurd run
  run_keeps kept may old fits holds (command ∷ commands) [] new run = absurd run

  -- whatever is run, what holds in a reached state holds after it
  pub run_reached : (old : State T H T H K) → IsReached old → (commands : List (Command T H K)) (replies : List (Reply T H))
      (new : State T H T H K) →
      Run action IsDefaultElement IsDefaultHeader family old commands replies new → IsReached new
  run_reached old fits commands replies new run = run_keeps (reached_kept action IsDefaultHeader IsDefaultHeader) (λ s fits n due. tt) old
      fits fits commands replies new run

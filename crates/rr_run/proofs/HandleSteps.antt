-- After each step, a number names no handle that it didn't name before, but for the one that the reply gives.
use Rattle.std.proofs.Common.{◌≡◌, ℕ, List, [], ◌∷◌, Option, Some, None, MatchOption, Result, Ok, Err, ap, ◌∙◌, ⊎_elim}
use Rattle.std.proofs.lemmas.Bool.{cases_eq}
use Rattle.rr_slots.specs.declared.family.Family.{Family}
use Rattle.rr_protocol.specs.declared.settings.BackpressureAction.{BackpressureAction}
use Rattle.rr_protocol.specs.declared.error.LoanError.{LoanError}
use Rattle.rr_protocol.specs.Messages.{Content, with_hint}
use Rattle.rr_protocol.specs.State.{State, handle_at}
use Rattle.rr_protocol.specs.Writing.{after_init, with_element, with_element_at, with_elements, with_request_content, with_response_content, with_user_header}
use Rattle.rr_protocol.specs.declared.command.Command.{Command}
use Rattle.rr_protocol.specs.declared.reply.Reply.{Reply}
use Rattle.rr_protocol.specs.Refusals.{refusal}
use Rattle.rr_protocol.specs.Step.{client_settings, server_settings, with_complete, with_content, Loans, Acts, Step}
use Rattle.rr_laws.proofs.Opening.{some_and}
use Rattle.rr_run.specs.Known.{given}
use Rattle.rr_run.proofs.Handles.{Fewer, Gains, number_given, moved, either, changed, released, creates_client, creates_server, loans_request, loans_response, sends_request, unsent_gone, sends_response, response_gone, receives_request, receives_response}

module _ {T H K : Type 0} (action : K → ℕ → ℕ → BackpressureAction) (IsDefaultElement : T → Type 0) (IsDefaultHeader : H → Type 0)
    (family : Family) where
  -- nothing changed
  still : (old new : State T H T H K) → new ≡ old → Fewer old new
  still old new e = moved old old new e (λ j is. is)

  quiet : (given : Option ℕ) (old new : State T H T H K) → Fewer old new → Gains given old new
  quiet given old new fewer k other none = fewer k none

  loans : (old : State T H T H K) (n len : ℕ) (result : Result ℕ LoanError) (new : State T H T H K)
      → Loans action IsDefaultElement IsDefaultHeader family old n len result new → Gains (number_given result) old new
  loans old n len result new h = ⊎_elim (loans_request IsDefaultHeader old n len result new)
      (loans_response IsDefaultHeader old n len result new) h

  content : (s : State T H T H K) (n : ℕ) (change : Content T H → Content T H) → Fewer s (with_content s n change)
  content s n change = changed s n (λ handle. with_request_content change (with_response_content change handle))

  complete : (s : State T H T H K) (n : ℕ) (elements : List T) → Fewer s (with_complete s n elements)
  complete s n elements k none =
      changed (with_content s n (with_elements elements)) n after_init k (content s n (with_elements elements) k none)

  -- a message that is loaned, written and gone
  gone_again : (old mid new : State T H T H K) (n : ℕ) (v : T) → Gains (Some n) old mid → handle_at new n ≡ None
      → Fewer (with_complete mid n (v ∷ [])) new → Fewer old new
  gone_again old mid new n v loan gone send k none = ⊎_elim
      (λ is. ap (handle_at new) is ∙ gone)
      (λ other. send k (complete mid n (v ∷ []) k (loan k (λ e. other (let f : Some n ≡ Some k = e in cc)) none)))
      (cases_eq k n)

  acts_gain : (old : State T H T H K) (command : Command T H K) (reply : Reply T H) (new : State T H T H K)
      → Acts action IsDefaultElement IsDefaultHeader family old command reply new → Gains (given command reply) old new
  acts_gain old (Command.CreateClient settings) (Reply.Created n) new acts =
      quiet None old new (creates_client old (client_settings family settings) (Ok n) new acts)
  acts_gain old (Command.CreateClient settings) (Reply.ClientError e) new acts =
      quiet None old new (creates_client old (client_settings family settings) (Err e) new acts)
  acts_gain old (Command.CreateClient settings) Reply.NoMemory new acts = quiet None old new (still old new acts)
  acts_gain old (Command.CreateServer settings) (Reply.Created n) new acts =
      quiet None old new (creates_server old (server_settings family settings) (Ok n) new acts)
  acts_gain old (Command.CreateServer settings) (Reply.ServerError e) new acts =
      quiet None old new (creates_server old (server_settings family settings) (Err e) new acts)
  acts_gain old (Command.CreateServer settings) Reply.NoMemory new acts = quiet None old new (still old new acts)
  acts_gain old (Command.Loan n len) (Reply.Loaned k) new acts = loans old n len (Ok k) new acts
  acts_gain old (Command.Loan n len) (Reply.LoanError e) new acts = loans old n len (Err e) new acts
  acts_gain old (Command.Loan n len) Reply.NoMemory new acts = quiet None old new (still old new acts)
  acts_gain old (Command.LoanDefault n len) (Reply.Loaned k) new acts = λ j other none.
      moved acts.0 _ new acts.5 (complete acts.0 k acts.1) j (loans old n len (Ok k) acts.0 acts.2 j other none)
  acts_gain old (Command.LoanDefault n len) (Reply.LoanError e) new acts = loans old n len (Err e) new acts
  acts_gain old (Command.LoanDefault n len) Reply.NoMemory new acts = quiet None old new (still old new acts)
  acts_gain old (Command.SendCopy n v) (Reply.Pending k connections) new acts = λ j other none.
      sends_request action (with_complete acts.0 k (v ∷ [])) k (Ok connections) new acts.2 j
      (complete acts.0 k (v ∷ []) j (loans_request IsDefaultHeader old n 1 (Ok k) acts.0 acts.1 j other none))
  acts_gain old (Command.SendCopy n v) (Reply.RequestError e) new acts =
      ⊎_elim
      (λ loan. loans_request IsDefaultHeader old n 1 (Err loan.0) new loan.1)
      (λ send. quiet None old new (gone_again old send.0 new send.1 v (loans_request IsDefaultHeader old n 1 (Ok send.1) send.0 send.2)
      (unsent_gone action (with_complete send.0 send.1 (v ∷ [])) send.1 e new send.3)
      (sends_request action (with_complete send.0 send.1 (v ∷ [])) send.1 (Err e) new send.3)))
      acts
  acts_gain old (Command.SendCopy n v) (Reply.Sent k) new acts =
      quiet None old new (gone_again old acts.0 new k v (loans_response IsDefaultHeader old n 1 (Ok k) acts.0 acts.1)
      (response_gone action (with_complete acts.0 k (v ∷ [])) k (Ok k) new acts.2)
      (sends_response action (with_complete acts.0 k (v ∷ [])) k (Ok k) new acts.2))
  acts_gain old (Command.SendCopy n v) (Reply.SendError e) new acts =
      ⊎_elim
      (λ loan. loans_response IsDefaultHeader old n 1 (Err loan.0) new loan.1)
      (λ send. quiet None old new (gone_again old send.0 new send.1 v (loans_response IsDefaultHeader old n 1 (Ok send.1) send.0 send.2)
      (response_gone {U = ℕ} action (with_complete send.0 send.1 (v ∷ [])) send.1 (Err e) new send.3)
      (sends_response {U = ℕ} action (with_complete send.0 send.1 (v ∷ [])) send.1 (Err e) new send.3)))
      acts
  acts_gain old (Command.SendCopy n v) Reply.NoMemory new acts = quiet None old new (still old new acts)
  acts_gain old (Command.Push n v) (Reply.Flag b) new acts = quiet None old new (moved old _ new (some_and (handle_at old n) _ acts).2.1
      (either b (with_content old n (with_element v)) old old (content old n (with_element v)) (λ j is. is)))
  acts_gain old (Command.Set n i v) (Reply.Flag b) new acts = quiet None old new (moved old _ new (some_and (handle_at old n) _ acts).2.1
      (either b (with_content old n (with_element_at i v)) old old (content old n (with_element_at i v)) (λ j is. is)))
  acts_gain old (Command.SetUserHeader n h) Reply.Done new acts =
      quiet None old new (moved old _ new acts (content old n (with_user_header h)))
  acts_gain old (Command.AssumeInit n) Reply.Done new acts = quiet None old new (moved old _ new acts (changed old n after_init))
  acts_gain old (Command.IsDeliverable n) (Reply.Flag b) new acts = quiet None old new (still old new acts.1)
  acts_gain old (Command.Send n) (Reply.Pending k connections) new acts =
      quiet None old new (sends_request action old n (Ok connections) new acts.1)
  acts_gain old (Command.Send n) (Reply.RequestError e) new acts = quiet None old new (sends_request action old n (Err e) new acts)
  acts_gain old (Command.Send n) (Reply.Sent k) new acts = quiet None old new (sends_response action old n (Ok k) new acts.1)
  acts_gain old (Command.Send n) (Reply.SendError e) new acts =
      quiet None old new (sends_response {U = ℕ} action old n (Err e) new acts)
  acts_gain old (Command.Receive n) (Reply.Active a r) new acts = receives_request old n (Ok (Some a)) new acts.0
  acts_gain old (Command.Receive n) (Reply.Response k) new acts = receives_response old n (Ok (Some k)) new acts
  acts_gain old (Command.Receive n) Reply.Nothing new acts = ⊎_elim (receives_request old n (Ok None) new)
      (receives_response old n (Ok None) new) acts
  acts_gain old (Command.Receive n) (Reply.ReceiveError e) new acts = ⊎_elim (receives_request old n (Err e) new)
      (receives_response old n (Err e) new) acts
  acts_gain old (Command.Receive n) Reply.NoMemory new acts = quiet None old new (still old new acts)
  acts_gain old (Command.HasEntries n) (Reply.Flag b) new acts = quiet None old new (still old new acts.1)
  acts_gain old (Command.IsConnected n) (Reply.Flag b) new acts = quiet None old new (still old new acts.1)
  acts_gain old (Command.SetHint n) Reply.Done new acts = quiet None old new (moved old _ new acts (changed old n with_hint))
  acts_gain old (Command.HasHint n) (Reply.Flag b) new acts = quiet None old new (still old new acts.1)
  acts_gain old (Command.Servers n) (Reply.Count c) new acts = quiet None old new (still old new acts.1)
  acts_gain old (Command.Header n) (Reply.RequestHeader h) new acts = quiet None old new (still old new acts.1)
  acts_gain old (Command.Header n) (Reply.ResponseHeader h) new acts = quiet None old new (still old new acts.1)
  acts_gain old (Command.UserHeader n) (Reply.UserHeader h) new acts = quiet None old new (still old new acts.1)
  acts_gain old (Command.Payload n) (Reply.Payload elements) new acts = quiet None old new (still old new acts.1)
  acts_gain old (Command.Payload n) Reply.NoMemory new acts = quiet None old new (still old new acts)
  acts_gain old (Command.Origin n) (Reply.Id m) new acts = quiet None old new (still old new acts.1)
  acts_gain old (Command.Strategy n) (Reply.Strategy s) new acts = quiet None old new (still old new acts.1)
  acts_gain old (Command.MaxSliceLen n) (Reply.Count c) new acts = quiet None old new (still old new acts.1)
  acts_gain old (Command.UpdateConnections n) Reply.Done new acts = quiet None old new (still old new acts)
  acts_gain old (Command.Release n) Reply.Done new acts = quiet None old new (moved old _ new acts (released old n))
  acts_gain old command reply new acts = absurd acts

  -- after any step
  pub step_gains : (old : State T H T H K) (command : Command T H K) (reply : Reply T H) (new : State T H T H K)
      → Step action IsDefaultElement IsDefaultHeader family old command reply new → Gains (given command reply) old new
  step_gains old command reply new step = go (refusal family old command) step
    where
      go : (o : Option (Reply T H)) → MatchOption o (Acts action IsDefaultElement IsDefaultHeader family old command reply new)
          (λ refused. (reply ≡ refused) × (new ≡ old)) → Gains (given command reply) old new
      go None step = acts_gain old command reply new step
      go (Some refused) step = quiet (given command reply) old new (still old new step.1)

-- Each step keeps lists of senders that left fit.
use Rattle.std.proofs.Common.{◌≡◌, ℕ, Bool, true, false, cond, List, [], ◌∷◌, Option, Some, None, MatchOption, Result, Ok, Err, refl, sym, ap, ◌∙◌, subst, ⊎_elim, option_map}
use Rattle.std.specs.Prelude.{◌||◌, if◌then◌else◌}
use Rattle.std.specs.Option.{option_map_or}
use Rattle.std.specs.List.{IsDistinct}
use Rattle.rr_slots.specs.declared.family.Family.{Family}
use Rattle.rr_protocol.specs.declared.kind.Kind.{Kind}
use Rattle.rr_protocol.specs.declared.limits.Limits.{Limits}
use Rattle.rr_protocol.specs.declared.settings.BackpressureAction.{BackpressureAction}
use Rattle.rr_protocol.specs.declared.settings.ClientSettings.{ClientSettings}
use Rattle.rr_protocol.specs.declared.settings.ServerSettings.{ServerSettings}
use Rattle.rr_protocol.specs.declared.error.ClientCreateError.{ClientCreateError}
use Rattle.rr_protocol.specs.declared.error.ServerCreateError.{ServerCreateError}
use Rattle.rr_protocol.specs.declared.error.LoanError.{LoanError}
use Rattle.rr_protocol.specs.Limits.{hub_refusal}
use Rattle.rr_protocol.specs.Messages.{Content, Handle}
use Rattle.rr_protocol.specs.State.{State, empty_hub, handle_at, is_client_value, is_server_value, with_changed}
use Rattle.rr_protocol.specs.Queries.{kind_of}
use Rattle.rr_protocol.specs.Creation.{CreatesClient, CreatesServer}
use Rattle.rr_protocol.proofs.ListsLaws.{at-no_lists}
use Rattle.rr_protocol.specs.declared.command.Command.{Command}
use Rattle.rr_protocol.specs.declared.reply.Reply.{Reply}
use Rattle.rr_protocol.specs.Refusals.{refusal_of_kind, refusal}
use Rattle.rr_protocol.specs.Step.{client_settings, server_settings, with_content, with_complete, Loans, Acts, Step}
use Rattle.rr_protocol.specs.Run.{Run}
use Rattle.rr_laws.specs.Reached.{has_client, has_server, is_port, IsReached}
use Rattle.rr_laws.specs.Left.{IsLeftFit}
use Rattle.rr_laws.specs.Expired.{SendersFit, ExpiredFit}
use Rattle.rr_table.proofs.ListFacts.{or_true}
use Rattle.rr_laws.proofs.Opening.{some_and}
use Rattle.rr_laws.proofs.Naming.{client_value_connected, server_value_connected}
use Rattle.rr_laws.proofs.Creating.{empty_hub_reached}
use Rattle.rr_laws.proofs.Loaning.{loans_request_reached, loans_response_reached}
use Rattle.rr_laws.proofs.Changing.{complete_reached}
use Rattle.rr_laws.proofs.Stepping.{step_reached}
use Rattle.rr_laws.proofs.LeftSteps.{loans_request_left, loans_response_left}
use Rattle.rr_laws.proofs.LeftRuns.{step_left, empty_left}
use Rattle.rr_laws.proofs.ExpiredLists.{nobody_fits}
use Rattle.rr_laws.proofs.ExpiredPorts.{with_client_expired, with_server_expired}
use Rattle.rr_laws.proofs.ExpiredSteps.{handles_expired, after_release_expired, loans_request_expired, loans_response_expired, sends_request_expired, sends_response_expired, receives_request_expired, receives_response_expired}

module _ {T H K : Type 0} where
  same_expired : (old new : State T H T H K) → new ≡ old → ExpiredFit old → ExpiredFit new
  same_expired old new same fits = subst (λ (x : State T H T H K). ExpiredFit x) (sym same) fits

  creates_client_expired : (s : State T H T H K) → IsReached s → ExpiredFit s
      → (settings : ClientSettings K) (result : Result ℕ ClientCreateError) (new : State T H T H K) → CreatesClient s settings result new
      → ExpiredFit new
  creates_client_expired s reached fits settings (Ok number) new made = same_expired _ new made.2
      (with_client_expired s reached fits settings)
  creates_client_expired s reached fits settings (Err error) new made = same_expired s new made.1 fits

  creates_server_expired : (s : State T H T H K) → IsReached s → ExpiredFit s
      → (settings : ServerSettings K) (result : Result ℕ ServerCreateError) (new : State T H T H K) → CreatesServer s settings result new
      → ExpiredFit new
  creates_server_expired s reached fits settings (Ok number) new made = same_expired _ new made.2
      (with_server_expired s reached fits settings)
  creates_server_expired s reached fits settings (Err error) new made = same_expired s new made.1 fits

  -- after a handle changed
  changed : (old new : State T H T H K) (n : ℕ) (change : Handle T H T H → Handle T H T H) → new ≡ with_changed old n change
      → ExpiredFit old → ExpiredFit new
  changed old new n change same fits = same_expired (with_changed old n change) new same (handles_expired old _ old.next fits)

  written : (old new : State T H T H K) (n : ℕ) (b : Bool) (change : Content T H → Content T H)
      → new ≡ cond b (with_content old n change) old → ExpiredFit old → ExpiredFit new
  written old new n true change same fits = same_expired (with_content old n change) new same (handles_expired old _ old.next fits)
  written old new n false change same fits = same_expired old new same fits

  completed : (s : State T H T H K) (n : ℕ) (elements : List T) → ExpiredFit s → ExpiredFit (with_complete s n elements)
  completed s n elements fits = handles_expired s _ s.next fits

  -- what a number names that is not unknown is a handle, or a connected port
  named_port : (family : Family) (s : State T H T H K) (n : ℕ) → refusal family s (Command.Release n) ≡ None → handle_at s n ≡ None
      → is_port s.clients s.servers n ≡ true
  named_port family s n e none = go (is_client_value s n) (is_server_value s n) (handle_at s n) refl refl none e
    where
      go : (is_client is_server : Bool) (h : Option (Handle T H T H)) → is_client_value s n ≡ is_client → is_server_value s n ≡ is_server
          → h ≡ None →
          option_map_or (refusal_of_kind family s (Command.Release n))
          (if is_client then Some Kind.Client else if is_server then Some Kind.Server else option_map kind_of h)
          (Some Reply.Unknown) ≡ None → is_port s.clients s.servers n ≡ true
      go true is_server h a b c e = ap (λ held. held || has_server s.servers n) (client_value_connected s n a)
      go false true h a b c e = or_true (has_client s.clients n) _ (server_value_connected s n b)
      go false false (Some h) a b c e = absurd (cc)
      go false false None a b c e = absurd (cc)

  empty_expired : (limits : Limits) (node_id : ℕ) → ExpiredFit (empty_hub {Q = T} {QH = H} {P = T} {PH = H} {K = K} limits node_id)
  unfolding IsDistinct
  empty_expired limits node_id =
      record {
        each_client = tt;
        each_server = tt;
        each_list = λ n. subst (SendersFit (empty_hub limits node_id) n) (sym (at-no_lists _ n)) (nobody_fits (empty_hub limits node_id) n);
      }

module _ {T H K : Type 0} (action : K → ℕ → ℕ → BackpressureAction) (IsDefaultElement : T → Type 0) (IsDefaultHeader : H → Type 0)
    (family : Family) where
  loans_expired : (old : State T H T H K) → ExpiredFit old → (n len : ℕ) (result : Result ℕ LoanError) (new : State T H T H K) →
      Loans action IsDefaultElement IsDefaultHeader family old n len result new → ExpiredFit new
  loans_expired old fits n len result new loans =
      ⊎_elim (loans_request_expired IsDefaultHeader old fits n len result new)
      (loans_response_expired IsDefaultHeader old fits n len result new) loans

  -- after any command that acts, if what it releases is a handle or a connected port
  acts_expired : (old : State T H T H K) → IsReached old → IsLeftFit old → ExpiredFit old
      → (command : Command T H K) (reply : Reply T H) (new : State T H T H K)
      → ((n : ℕ) → command ≡ Command.Release n → handle_at old n ≡ None → is_port old.clients old.servers n ≡ true) →
      Acts action IsDefaultElement IsDefaultHeader family old command reply new → ExpiredFit new
  acts_expired old reached left fits (Command.CreateClient settings) (Reply.Created n) new named acts =
      creates_client_expired old reached fits (client_settings family settings) (Ok n) new acts
  acts_expired old reached left fits (Command.CreateClient settings) (Reply.ClientError e) new named acts =
      creates_client_expired old reached fits (client_settings family settings) (Err e) new acts
  acts_expired old reached left fits (Command.CreateClient settings) Reply.NoMemory new named acts = same_expired old new acts fits
  acts_expired old reached left fits (Command.CreateServer settings) (Reply.Created n) new named acts =
      creates_server_expired old reached fits (server_settings family settings) (Ok n) new acts
  acts_expired old reached left fits (Command.CreateServer settings) (Reply.ServerError e) new named acts =
      creates_server_expired old reached fits (server_settings family settings) (Err e) new acts
  acts_expired old reached left fits (Command.CreateServer settings) Reply.NoMemory new named acts = same_expired old new acts fits
  acts_expired old reached left fits (Command.Loan n len) (Reply.Loaned k) new named acts = loans_expired old fits n len (Ok k) new acts
  acts_expired old reached left fits (Command.Loan n len) (Reply.LoanError e) new named acts = loans_expired old fits n len (Err e) new acts
  acts_expired old reached left fits (Command.Loan n len) Reply.NoMemory new named acts = same_expired old new acts fits
  acts_expired old reached left fits (Command.LoanDefault n len) (Reply.Loaned k) new named acts =
      same_expired _ new acts.5 (completed acts.0 k acts.1 (loans_expired old fits n len (Ok k) acts.0 acts.2))
  acts_expired old reached left fits (Command.LoanDefault n len) (Reply.LoanError e) new named acts =
      loans_expired old fits n len (Err e) new acts
  acts_expired old reached left fits (Command.LoanDefault n len) Reply.NoMemory new named acts = same_expired old new acts fits
  acts_expired old reached left fits (Command.SendCopy n v) (Reply.Pending k connections) new named acts =
      sends_request_expired action (with_complete acts.0 k (v ∷ []))
      (complete_reached acts.0 k (v ∷ []) (loans_request_reached old reached IsDefaultHeader n 1 (Ok k) acts.0 acts.1))
      (loans_request_left IsDefaultHeader old left n 1 (Ok k) acts.0 acts.1)
      (completed acts.0 k (v ∷ []) (loans_request_expired IsDefaultHeader old fits n 1 (Ok k) acts.0 acts.1))
      k (Ok connections) new acts.2
  acts_expired old reached left fits (Command.SendCopy n v) (Reply.RequestError e) new named acts =
      ⊎_elim
      (λ loan. loans_request_expired IsDefaultHeader old fits n 1 (Err loan.0) new loan.1)
      (λ send. sends_request_expired action (with_complete send.0 send.1 (v ∷ []))
      (complete_reached send.0 send.1 (v ∷ []) (loans_request_reached old reached IsDefaultHeader n 1 (Ok send.1) send.0 send.2))
      (loans_request_left IsDefaultHeader old left n 1 (Ok send.1) send.0 send.2)
      (completed send.0 send.1 (v ∷ []) (loans_request_expired IsDefaultHeader old fits n 1 (Ok send.1) send.0 send.2))
      send.1 (Err e) new send.3)
      acts
  acts_expired old reached left fits (Command.SendCopy n v) (Reply.Sent k) new named acts =
      sends_response_expired action (with_complete acts.0 k (v ∷ []))
      (complete_reached acts.0 k (v ∷ []) (loans_response_reached old reached IsDefaultHeader n 1 (Ok k) acts.0 acts.1))
      (loans_response_left IsDefaultHeader old left n 1 (Ok k) acts.0 acts.1)
      (completed acts.0 k (v ∷ []) (loans_response_expired IsDefaultHeader old fits n 1 (Ok k) acts.0 acts.1))
      k (Ok k) new acts.2
  acts_expired old reached left fits (Command.SendCopy n v) (Reply.SendError e) new named acts =
      ⊎_elim
      (λ loan. loans_response_expired IsDefaultHeader old fits n 1 (Err loan.0) new loan.1)
      (λ send. sends_response_expired {U = ℕ} action (with_complete send.0 send.1 (v ∷ []))
      (complete_reached send.0 send.1 (v ∷ []) (loans_response_reached old reached IsDefaultHeader n 1 (Ok send.1) send.0 send.2))
      (loans_response_left IsDefaultHeader old left n 1 (Ok send.1) send.0 send.2)
      (completed send.0 send.1 (v ∷ []) (loans_response_expired IsDefaultHeader old fits n 1 (Ok send.1) send.0 send.2))
      send.1 (Err e) new send.3)
      acts
  acts_expired old reached left fits (Command.SendCopy n v) Reply.NoMemory new named acts = same_expired old new acts fits
  acts_expired old reached left fits (Command.Push n v) (Reply.Flag b) new named acts =
      written old new n b _ ((some_and (handle_at old n) _ acts).2.1) fits
  acts_expired old reached left fits (Command.Set n i v) (Reply.Flag b) new named acts =
      written old new n b _ ((some_and (handle_at old n) _ acts).2.1) fits
  acts_expired old reached left fits (Command.SetUserHeader n h) Reply.Done new named acts = changed old new n _ acts fits
  acts_expired old reached left fits (Command.AssumeInit n) Reply.Done new named acts = changed old new n _ acts fits
  acts_expired old reached left fits (Command.IsDeliverable n) (Reply.Flag b) new named acts = same_expired old new acts.1 fits
  acts_expired old reached left fits (Command.Send n) (Reply.Pending k connections) new named acts =
      sends_request_expired action old reached left fits n (Ok connections) new acts.1
  acts_expired old reached left fits (Command.Send n) (Reply.RequestError e) new named acts =
      sends_request_expired action old reached left fits n (Err e) new acts
  acts_expired old reached left fits (Command.Send n) (Reply.Sent k) new named acts =
      sends_response_expired action old reached left fits n (Ok k) new acts.1
  acts_expired old reached left fits (Command.Send n) (Reply.SendError e) new named acts =
      sends_response_expired {U = ℕ} action old reached left fits n (Err e) new acts
  acts_expired old reached left fits (Command.Receive n) (Reply.Active a r) new named acts =
      receives_request_expired old fits n (Ok (Some a)) new acts.0
  acts_expired old reached left fits (Command.Receive n) (Reply.Response k) new named acts =
      receives_response_expired old fits n (Ok (Some k)) new acts
  acts_expired old reached left fits (Command.Receive n) Reply.Nothing new named acts =
      ⊎_elim (receives_request_expired old fits n (Ok None) new) (receives_response_expired old fits n (Ok None) new) acts
  acts_expired old reached left fits (Command.Receive n) (Reply.ReceiveError e) new named acts =
      ⊎_elim (receives_request_expired old fits n (Err e) new) (receives_response_expired old fits n (Err e) new) acts
  acts_expired old reached left fits (Command.Receive n) Reply.NoMemory new named acts = same_expired old new acts fits
  acts_expired old reached left fits (Command.HasEntries n) (Reply.Flag b) new named acts = same_expired old new acts.1 fits
  acts_expired old reached left fits (Command.IsConnected n) (Reply.Flag b) new named acts = same_expired old new acts.1 fits
  acts_expired old reached left fits (Command.SetHint n) Reply.Done new named acts = changed old new n _ acts fits
  acts_expired old reached left fits (Command.HasHint n) (Reply.Flag b) new named acts = same_expired old new acts.1 fits
  acts_expired old reached left fits (Command.Servers n) (Reply.Count c) new named acts = same_expired old new acts.1 fits
  acts_expired old reached left fits (Command.Header n) (Reply.RequestHeader h) new named acts = same_expired old new acts.1 fits
  acts_expired old reached left fits (Command.Header n) (Reply.ResponseHeader h) new named acts = same_expired old new acts.1 fits
  acts_expired old reached left fits (Command.UserHeader n) (Reply.UserHeader h) new named acts = same_expired old new acts.1 fits
  acts_expired old reached left fits (Command.Payload n) (Reply.Payload elements) new named acts = same_expired old new acts.1 fits
  acts_expired old reached left fits (Command.Payload n) Reply.NoMemory new named acts = same_expired old new acts fits
  acts_expired old reached left fits (Command.Origin n) (Reply.Id m) new named acts = same_expired old new acts.1 fits
  acts_expired old reached left fits (Command.Strategy n) (Reply.Strategy s) new named acts = same_expired old new acts.1 fits
  acts_expired old reached left fits (Command.MaxSliceLen n) (Reply.Count c) new named acts = same_expired old new acts.1 fits
  acts_expired old reached left fits (Command.UpdateConnections n) Reply.Done new named acts = same_expired old new acts fits
  acts_expired old reached left fits (Command.Release n) Reply.Done new named acts =
      same_expired _ new acts (after_release_expired old n reached left fits (named n refl))
  acts_expired old reached left fits command reply new named acts = absurd acts

  -- after any step
  pub step_expired : (old : State T H T H K) → IsReached old → IsLeftFit old → ExpiredFit old
      → (command : Command T H K) (reply : Reply T H) (new : State T H T H K) →
      Step action IsDefaultElement IsDefaultHeader family old command reply new → ExpiredFit new
  step_expired old reached left fits command reply new step = go (refusal family old command) refl step
    where
      go : (o : Option (Reply T H)) → refusal family old command ≡ o
          → MatchOption o (Acts action IsDefaultElement IsDefaultHeader family old command reply new)
          (λ refused. (reply ≡ refused) × (new ≡ old)) → ExpiredFit new
      go None due step = acts_expired old reached left fits command reply new
          (λ n is. named_port family old n (sym (ap (refusal family old) is) ∙ due)) step
      go (Some refused) due step = same_expired old new step.1 fits

  -- whatever is run, lists of senders that left fit
  pub run_expired : (old : State T H T H K) → IsReached old → IsLeftFit old → ExpiredFit old
      → (commands : List (Command T H K)) (replies : List (Reply T H)) (new : State T H T H K) →
      Run action IsDefaultElement IsDefaultHeader family old commands replies new → ExpiredFit new
  run_expired old reached left fits [] [] new run = same_expired old new run fits
  run_expired old reached left fits (command ∷ commands) (reply ∷ replies) new run =
      run_expired run.0 (step_reached action IsDefaultElement IsDefaultHeader family old reached command reply run.0 run.1)
      (step_left action IsDefaultElement IsDefaultHeader family old reached left command reply run.0 run.1)
      (step_expired old reached left fits command reply run.0 run.1) commands replies new run.2
  run_expired old reached left fits [] (reply ∷ replies) new run = absurd run
  run_expired old reached left fits (command ∷ commands) [] new run = absurd run

  -- in every state that a run reaches from the empty hub
  pub expired_from_empty : (limits : Limits) (node_id : ℕ) → hub_refusal limits ≡ None
      → (commands : List (Command T H K)) (replies : List (Reply T H)) (s : State T H T H K) →
      Run action IsDefaultElement IsDefaultHeader family (empty_hub limits node_id) commands replies s → ExpiredFit s
  expired_from_empty limits node_id makes_hub commands replies s run =
      run_expired (empty_hub limits node_id) (empty_hub_reached limits node_id makes_hub) empty_left
      (empty_expired limits node_id) commands replies s run

-- Each step keeps that a request has received all that does not stand in a list.
use Rattle.std.proofs.Common.{◌≡◌, ℕ, true, false, eqb, List, [], ◌∷◌, ◌++◌, Option, Some, None, MatchOption, Result, Ok, Err, refl, sym, ap, ◌∙◌, subst, ⊎_elim, inl, inr, arith}
use Rattle.std.specs.Prelude.{find}
use Rattle.rr_slots.specs.declared.family.Family.{Family}
use Rattle.rr_protocol.specs.declared.settings.BackpressureAction.{BackpressureAction}
use Rattle.rr_protocol.specs.declared.error.LoanError.{LoanError}
use Rattle.rr_protocol.specs.declared.error.RequestSendError.{RequestSendError}
use Rattle.rr_protocol.specs.declared.error.SendError.{SendError}
use Rattle.rr_protocol.specs.Messages.{with_hint}
use Rattle.rr_protocol.specs.Writing.{with_element, with_element_at, with_user_header, after_init}
use Rattle.rr_protocol.specs.Ports.{Server}
use Rattle.rr_protocol.specs.State.{State, client_at, handle_at}
use Rattle.rr_protocol.specs.Loans.{LoansRequest, LoansResponse}
use Rattle.rr_protocol.specs.Sends.{SendsRequest, SendsResponse}
use Rattle.rr_protocol.specs.declared.command.Command.{Command}
use Rattle.rr_protocol.specs.declared.reply.Reply.{Reply}
use Rattle.rr_protocol.specs.Refusals.{refusal}
use Rattle.rr_protocol.specs.Step.{client_settings, with_complete, Loans, Acts, Step}
use Rattle.rr_protocol.specs.AnswerRule.{Event, creates_waiting}
use Rattle.rr_laws.specs.Reached.{IsReached}
use Rattle.rr_laws.specs.Apart.{IsApart}
use Rattle.rr_laws.specs.Left.{IsLeftFit}
use Rattle.rr_laws.specs.Following.{MovesQuietly, Follows}
use Rattle.rr_laws.specs.Settling.{IsNew, Settles}
use Rattle.rr_laws.specs.Completing.{Completes}
use Rattle.rr_laws.specs.Standing.{Stands}
use Rattle.rr_laws.proofs.Opening.{some_and, open_active}
use Rattle.rr_laws.proofs.Loaning.{loans_request_reached}
use Rattle.rr_laws.proofs.Changing.{init_role, hint_role, complete_reached}
use Rattle.rr_laws.proofs.ApartSends.{loans_request_apart}
use Rattle.rr_laws.proofs.ApartSteps.{complete_apart}
use Rattle.rr_laws.proofs.LeftSteps.{loans_request_left, loans_response_left}
use Rattle.rr_laws.proofs.Telling.{speaks, is_refusing, IsSilent, silent, refusing_silent, refusing_creates_none, refusal_refuses}
use Rattle.rr_laws.proofs.FollowingCalls.{both, unmoved, changed_quietly, creates_client_quietly, loan_tells}
use Rattle.rr_laws.proofs.FollowingSteps.{complete_quietly, written, copy_moves, refused_loan, loaned_response_complete, copied_now, not_copied, copied_request}
use Rattle.rr_laws.proofs.MovingSends.{loaned_request_moves, sent_request_quietly, sent_response_moves, unsent_response_moves}
use Rattle.rr_laws.proofs.Settling.{then_settles, settles_after}
use Rattle.rr_laws.proofs.SettlingSends.{loaned_request_settles, loaned_response_settles, sent_request_settles}
use Rattle.rr_laws.proofs.SettlingResponses.{sent_response_settles, unsent_response_settles}
use Rattle.rr_laws.proofs.CompletingEvents.{completes_sent}
use Rattle.rr_laws.proofs.SettlingWrites.{SettlesQuietly, unsettled, changed_settles, complete_settles, written_settles, creates_client_settles}
use Rattle.rr_laws.proofs.CompletingCalls.{Steps, quiet_completes, unchanged_completes, server_completes, release_completes, loan_completes, sent_completes, request_completes, response_completes, nothing_completes, refused_completes}

module _ {T H K : Type 0} (action : K → ℕ → ℕ → BackpressureAction) (IsDefaultElement : T → Type 0) (IsDefaultHeader : H → Type 0)
    (family : Family) (history : List (Event T H K)) (old : State T H T H K)
    (fits : IsReached old) (apart : IsApart old) (left : IsLeftFit old) (follows : Follows history old)
    (completes : Completes history old) where
  stands : Stands history old
  stands = record { fits = fits; apart = apart; left = left; follows = follows; completes = completes }

  -- after an event that tells nothing, and creates and releases no server
  quietly : (command : Command T H K) (reply : Reply T H) (new : State T H T H K) → IsSilent (command, reply)
      → ((n : ℕ) → creates_waiting n (command, reply) ≡ false) → Steps history old command reply new → MovesQuietly old new
      → SettlesQuietly old new → Completes (history ++ (command, reply) ∷ []) new
  quietly command reply new quiet plain steps moves settles =
      quiet_completes history old stands command reply new quiet plain steps moves settles

  kept : (command : Command T H K) (reply : Reply T H) (new : State T H T H K) → speaks (command, reply) ≡ false
      → ((n : ℕ) → creates_waiting n (command, reply) ≡ false) → Steps history old command reply new → new ≡ old
      → Completes (history ++ (command, reply) ∷ []) new
  kept command reply new quiet = unchanged_completes history old stands command reply new (silent command reply quiet)

  -- a loan that is refused
  refused_settles : (n len : ℕ) (error : LoanError) (new : State T H T H K)
      → Loans action IsDefaultElement IsDefaultHeader family old n len (Err error) new → SettlesQuietly old new
  refused_settles n len error new loans = ⊎_elim
      (λ (request : LoansRequest IsDefaultHeader old n len (Err error) new). unsettled old new (some_and (client_at old n) _ request).2.1)
      (λ (response : LoansResponse IsDefaultHeader old n len (Err error) new). unsettled old new (open_active old n _ response).4.1)
      loans

  -- after a loan that is refused
  not_loaned : (command : Command T H K) (reply : Reply T H) (n len : ℕ) (error : LoanError) (new : State T H T H K)
      → IsSilent (command, reply) → ((n : ℕ) → creates_waiting n (command, reply) ≡ false) → Steps history old command reply new →
      Loans action IsDefaultElement IsDefaultHeader family old n len (Err error) new → Completes (history ++ (command, reply) ∷ []) new
  not_loaned command reply n len error new quiet plain steps loans =
      quietly command reply new quiet plain steps (refused_loan action IsDefaultElement IsDefaultHeader family history old fits apart
      follows n len error new loans) (refused_settles n len error new loans)

  -- a send of a request at once, also one that is refused
  copied_request_settles : (n k : ℕ) (v : T) (mid new : State T H T H K) (result : Result ℕ RequestSendError)
      → LoansRequest IsDefaultHeader old n 1 (Ok k) mid → SendsRequest action (with_complete mid k (v ∷ [])) k result new
      → SettlesQuietly old new
  copied_request_settles n k v mid new result loans sends =
      let complete = with_complete mid k (v ∷ []) in
      let number : k ≡ old.next = (loaned_request_moves {Gains = λ j role. ⊥} IsDefaultHeader old fits n 1 k mid loans).1 in
      then_settles old mid new (loaned_request_settles IsDefaultHeader old fits n 1 k mid loans)
      (then_settles mid complete new (complete_settles mid k (v ∷ []))
      (sent_request_settles action complete
      (complete_reached mid k (v ∷ []) (loans_request_reached old fits IsDefaultHeader n 1 (Ok k) mid loans))
      (complete_apart mid k (v ∷ []) (loans_request_apart IsDefaultHeader old fits apart n 1 (Ok k) mid loans))
      (loans_request_left IsDefaultHeader old left n 1 (Ok k) mid loans) k result new sends
      (λ server q e. inr (inl (omega (arith, number))))))

  -- a loan of a response for a send at once
  complete_response_settles : {Begins : ℕ → ℕ → Type 0} (n k : ℕ) (v : T) (mid : State T H T H K)
      → LoansResponse IsDefaultHeader old n 1 (Ok k) mid →
      Settles Begins (λ j. ⊥) (λ server p before after. after ≡ before) old (with_complete mid k (v ∷ []))
  complete_response_settles n k v mid loans =
      then_settles old mid (with_complete mid k (v ∷ [])) (loaned_response_settles IsDefaultHeader old n 1 k mid loans)
      (complete_settles mid k (v ∷ []))

  -- a loan of a response for a send at once that is refused
  not_copied_settles : (n k : ℕ) (v : T) (e : SendError) (mid new : State T H T H K) → LoansResponse IsDefaultHeader old n 1 (Ok k) mid
      → SendsResponse {U = ℕ} action (with_complete mid k (v ∷ [])) k (Err e) new → SettlesQuietly old new
  not_copied_settles n k v e mid new loans sends =
      let complete = with_complete mid k (v ∷ []) in
      let holds = loaned_response_complete action IsDefaultElement IsDefaultHeader family history old fits apart follows n k mid v loans in
      then_settles old complete new (complete_response_settles n k v mid loans)
      (unsent_response_settles ℕ action complete holds.0 holds.1
      (loans_response_left IsDefaultHeader old left n 1 (Ok k) mid loans) k e new sends)

  -- a loan of a response and the send of it
  copied : (n k : ℕ) (v : T) (mid new : State T H T H K) → Steps history old (Command.SendCopy n v) (Reply.Sent k) new
      → LoansResponse IsDefaultHeader old n 1 (Ok k) mid → SendsResponse {U = ℕ} action (with_complete mid k (v ∷ [])) k (Ok k) new →
      Completes (history ++ (Command.SendCopy n v, Reply.Sent k) ∷ []) new
  copied n k v mid new steps loans sends =
      let complete = with_complete mid k (v ∷ []) in
      let now = copied_now action IsDefaultElement IsDefaultHeader family history old fits apart follows n k v mid new loans sends in
      let m = now.0 in
      let holds = loaned_response_complete action IsDefaultElement IsDefaultHeader family history old fits apart follows n k mid v loans in
      let settled = sent_response_settles {Begins = λ s q. ⊥} {Ends = λ j. ⊥} action complete holds.0 holds.1
      (loans_response_left IsDefaultHeader old left n 1 (Ok k) mid loans) k k new sends m now.1 in
      let gone = (sent_response_moves action complete holds.0 holds.1 k k new sends).3 in
      let before = complete_response_settles {Begins = λ s q. ⊥} n k v mid loans in
      let opened = open_active old n _ loans in
      let limits : mid.limits ≡ old.limits = ap (λ (x : State T H T H K). x.limits) opened.4.2.2 in
      let servers : mid.servers ≡ old.servers = ap (λ (x : State T H T H K). x.servers) opened.4.2.2 in
      completes_sent history (Command.SendCopy n v, Reply.Sent k) old new fits completes steps.1 follows steps.0 now.2.comes complete
      m.server m.request k now.2.send now.2.sent (λ j. refl) (λ s a q. refl)
      (settles_after old complete new before settled.0)
      (copy_moves history IsDefaultHeader old fits follows n k mid new (v ∷ []) loans settled.1 gone)
      (λ serves. ⊎_elim (λ was. was.0) (λ begins. absurd begins) (before.serving m.server m.request serves))
      (λ made no_overflow. (
        ap (λ l. l.enable_safe_overflow_for_responses) limits ∙ no_overflow,
        (λ c e. completes.waits m.server made c (sym (ap (λ l. find (λ (d : Server K). eqb d.id m.server) l) servers) ∙ e)),
      ))

  -- after any command that acts
  pub acts_complete : (command : Command T H K) (reply : Reply T H) (new : State T H T H K) → IsApart new
      → Steps history old command reply new
      → Acts action IsDefaultElement IsDefaultHeader family old command reply new → Completes (history ++ (command, reply) ∷ []) new
  acts_complete (Command.CreateClient settings) (Reply.Created n) new after steps acts =
      quietly _ _ new (silent _ _ refl) (λ k. refl) steps (creates_client_quietly old (client_settings family settings) (Ok n) new acts)
      (creates_client_settles old (client_settings family settings) (Ok n) new acts)
  acts_complete (Command.CreateClient settings) (Reply.ClientError e) new after steps acts =
      quietly _ _ new (silent _ _ refl) (λ k. refl) steps (creates_client_quietly old (client_settings family settings) (Err e) new acts)
      (creates_client_settles old (client_settings family settings) (Err e) new acts)
  acts_complete (Command.CreateClient settings) Reply.NoMemory new after steps acts = kept _ _ new refl (λ k. refl) steps acts
  acts_complete (Command.CreateServer settings) (Reply.Created n) new after steps acts =
      server_completes history old stands family settings n new steps acts
  acts_complete (Command.CreateServer settings) (Reply.ServerError e) new after steps acts = kept _ _ new refl (λ k. refl) steps acts.1
  acts_complete (Command.CreateServer settings) Reply.NoMemory new after steps acts = kept _ _ new refl (λ k. refl) steps acts
  acts_complete (Command.Loan n len) (Reply.Loaned k) new after steps acts =
      loan_completes history old stands IsDefaultHeader IsDefaultHeader _ _ n len k new (loan_tells n len k) (λ k. refl) acts new
      (unmoved new new refl) (unsettled new new refl) steps
  acts_complete (Command.Loan n len) (Reply.LoanError e) new after steps acts = not_loaned _ _ n len e new (silent _ _ refl)
      (λ k. refl) steps acts
  acts_complete (Command.Loan n len) Reply.NoMemory new after steps acts = kept _ _ new refl (λ k. refl) steps acts
  acts_complete (Command.LoanDefault n len) (Reply.Loaned k) new after steps acts =
      loan_completes history old stands IsDefaultHeader IsDefaultHeader _ _ n len k acts.0 (record {
        sends = refl;
        receives = λ p. refl;
        responds = λ j. refl;
        activates = λ server a p. refl;
        lends = λ j. refl;
        loans = both n k;
      }) (λ k. refl) acts.2 new
      (subst (λ (x : State T H T H K). MovesQuietly acts.0 x) (sym acts.5) (complete_quietly acts.0 k acts.1))
      (subst (λ (x : State T H T H K). Settles (IsNew old) (λ n. ⊥) (λ server p before after. after ≡ before) acts.0 x) (sym acts.5)
      (complete_settles acts.0 k acts.1)) steps
  acts_complete (Command.LoanDefault n len) (Reply.LoanError e) new after steps acts = not_loaned _ _ n len e new (silent _ _ refl)
      (λ k. refl) steps acts
  acts_complete (Command.LoanDefault n len) Reply.NoMemory new after steps acts = kept _ _ new refl (λ k. refl) steps acts
  acts_complete (Command.SendCopy n v) (Reply.Pending k connections) new after steps acts =
      quietly _ _ new (silent _ _ refl) (λ k. refl) steps (copied_request action IsDefaultElement IsDefaultHeader family history old fits
      apart follows n k v acts.0 new (Ok connections) acts.1 acts.2)
      (copied_request_settles n k v acts.0 new (Ok connections) acts.1 acts.2)
  acts_complete (Command.SendCopy n v) (Reply.RequestError e) new after steps acts = ⊎_elim
      (λ loaned. not_loaned _ _ n 1 loaned.0 new (silent _ _ refl) (λ k. refl) steps (inl loaned.1))
      (λ send. quietly _ _ new (silent _ _ refl) (λ k. refl) steps
      (copied_request action IsDefaultElement IsDefaultHeader family history old fits apart follows n send.1 v send.0 new
      (Err e) send.2 send.3)
      (copied_request_settles n send.1 v send.0 new (Err e) send.2 send.3))
      acts
  acts_complete (Command.SendCopy n v) (Reply.Sent k) new after steps acts = copied n k v acts.0 new steps acts.1 acts.2
  acts_complete (Command.SendCopy n v) (Reply.SendError e) new after steps acts = ⊎_elim
      (λ loaned. not_loaned _ _ n 1 loaned.0 new (silent _ _ refl) (λ k. refl) steps (inr loaned.1))
      (λ send. quietly _ _ new (silent _ _ refl) (λ k. refl) steps
      (not_copied action IsDefaultElement IsDefaultHeader family history old fits apart follows n send.1 v e send.0 new send.2 send.3)
      (not_copied_settles n send.1 v e send.0 new send.2 send.3))
      acts
  acts_complete (Command.SendCopy n v) Reply.NoMemory new after steps acts = kept _ _ new refl (λ k. refl) steps acts
  acts_complete (Command.Push n v) (Reply.Flag b) new after steps acts =
      let same = (some_and (handle_at old n) _ acts).2.1 in quietly _ _ new (silent _ _ refl) (λ k. refl) steps
      (written old new n b (with_element v) same) (written_settles old new n b (with_element v) same)
  acts_complete (Command.Set n i v) (Reply.Flag b) new after steps acts =
      let same = (some_and (handle_at old n) _ acts).2.1 in quietly _ _ new (silent _ _ refl) (λ k. refl) steps
      (written old new n b (with_element_at i v) same) (written_settles old new n b (with_element_at i v) same)
  acts_complete (Command.SetUserHeader n h) Reply.Done new after steps acts =
      quietly _ _ new (silent _ _ refl) (λ k. refl) steps (written old new n true (with_user_header h) acts)
      (written_settles old new n true (with_user_header h) acts)
  acts_complete (Command.AssumeInit n) Reply.Done new after steps acts =
      quietly _ _ new (silent _ _ refl) (λ k. refl) steps (changed_quietly old new n after_init init_role acts)
      (changed_settles old new n after_init init_role acts)
  acts_complete (Command.IsDeliverable n) (Reply.Flag b) new after steps acts = kept _ _ new refl (λ k. refl) steps acts.1
  acts_complete (Command.Send n) (Reply.Pending k connections) new after steps acts =
      quietly _ _ new (silent _ _ refl) (λ k. refl) steps (sent_request_quietly action old fits apart n (Ok connections) new acts.1)
      (sent_request_settles action old fits apart left n (Ok connections) new acts.1 (λ server q e. inr (inr (q, e))))
  acts_complete (Command.Send n) (Reply.RequestError e) new after steps acts =
      quietly _ _ new (silent _ _ refl) (λ k. refl) steps (sent_request_quietly action old fits apart n (Err e) new acts)
      (sent_request_settles action old fits apart left n (Err e) new acts (λ server q e. inr (inr (q, e))))
  acts_complete (Command.Send n) (Reply.Sent k) new after steps acts =
      sent_completes history old stands action n k new acts.0 steps acts.1
  acts_complete (Command.Send n) (Reply.SendError e) new after steps acts =
      quietly _ _ new (silent _ _ refl) (λ k. refl) steps (unsent_response_moves ℕ action old fits n e new acts).0
      (unsent_response_settles ℕ action old fits apart left n e new acts)
  acts_complete (Command.Receive n) (Reply.Active a r) new after steps acts =
      request_completes history old stands n a r new steps acts.0 acts.1
  acts_complete (Command.Receive n) (Reply.Response k) new after steps acts = response_completes history old stands n k new after steps acts
  acts_complete (Command.Receive n) Reply.Nothing new after steps acts = nothing_completes history old stands n new steps acts
  acts_complete (Command.Receive n) (Reply.ReceiveError e) new after steps acts = refused_completes history old stands n e new steps acts
  acts_complete (Command.Receive n) Reply.NoMemory new after steps acts = kept _ _ new refl (λ k. refl) steps acts
  acts_complete (Command.HasEntries n) (Reply.Flag b) new after steps acts = kept _ _ new refl (λ k. refl) steps acts.1
  acts_complete (Command.IsConnected n) (Reply.Flag b) new after steps acts = kept _ _ new refl (λ k. refl) steps acts.1
  acts_complete (Command.SetHint n) Reply.Done new after steps acts =
      quietly _ _ new (silent _ _ refl) (λ k. refl) steps (changed_quietly old new n with_hint hint_role acts)
      (changed_settles old new n with_hint hint_role acts)
  acts_complete (Command.HasHint n) (Reply.Flag b) new after steps acts = kept _ _ new refl (λ k. refl) steps acts.1
  acts_complete (Command.Servers n) (Reply.Count c) new after steps acts = kept _ _ new refl (λ k. refl) steps acts.1
  acts_complete (Command.Header n) (Reply.RequestHeader h) new after steps acts = kept _ _ new refl (λ k. refl) steps acts.1
  acts_complete (Command.Header n) (Reply.ResponseHeader h) new after steps acts = kept _ _ new refl (λ k. refl) steps acts.1
  acts_complete (Command.UserHeader n) (Reply.UserHeader h) new after steps acts = kept _ _ new refl (λ k. refl) steps acts.1
  acts_complete (Command.Payload n) (Reply.Payload elements) new after steps acts = kept _ _ new refl (λ k. refl) steps acts.1
  acts_complete (Command.Payload n) Reply.NoMemory new after steps acts = kept _ _ new refl (λ k. refl) steps acts
  acts_complete (Command.Origin n) (Reply.Id m) new after steps acts = kept _ _ new refl (λ k. refl) steps acts.1
  acts_complete (Command.Strategy n) (Reply.Strategy s) new after steps acts = kept _ _ new refl (λ k. refl) steps acts.1
  acts_complete (Command.MaxSliceLen n) (Reply.Count c) new after steps acts = kept _ _ new refl (λ k. refl) steps acts.1
  acts_complete (Command.UpdateConnections n) Reply.Done new after steps acts = kept _ _ new refl (λ k. refl) steps acts
  acts_complete (Command.Release n) Reply.Done new after steps acts = release_completes history old stands n new steps acts
  acts_complete command reply new after steps acts = absurd acts

  -- after any step
  pub step_completes : (command : Command T H K) (reply : Reply T H) (new : State T H T H K) → IsApart new
      → Steps history old command reply new
      → Step action IsDefaultElement IsDefaultHeader family old command reply new → Completes (history ++ (command, reply) ∷ []) new
  step_completes command reply new after steps step = go (refusal family old command) refl step
    where
      go : (o : Option (Reply T H)) → refusal family old command ≡ o
          → MatchOption o (Acts action IsDefaultElement IsDefaultHeader family old command reply new)
          (λ refused. (reply ≡ refused) × (new ≡ old)) → Completes (history ++ (command, reply) ∷ []) new
      go None due step = acts_complete command reply new after steps step
      go (Some refused) due step =
          let refuses : is_refusing reply ≡ true = ap is_refusing step.0 ∙ refusal_refuses family old command refused due in
          unchanged_completes history old stands command reply new (refusing_silent command reply refuses)
          (refusing_creates_none command reply refuses) steps step.1

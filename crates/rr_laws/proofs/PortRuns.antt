-- Every run of ports from the empty hub keeps the answer rule.
use Rattle.std.proofs.Common.{ℕ, refl, Ok, Err, ⊎_elim, true, List, subst, sym, ◌++◌, ◌∷◌, [], inr, false, ◌≡◌, None}
use Rattle.rr_slots.specs.declared.family.Family.TheVariants.{Sliced}
use Rattle.rr_protocol.specs.declared.settings.BackpressureAction.{BackpressureAction}
use Rattle.rr_protocol.specs.declared.limits.Limits.{Limits}
use Rattle.rr_protocol.specs.Writing.{after_init}
use Rattle.rr_protocol.specs.Messages.{with_hint}
use Rattle.rr_protocol.specs.State.{State, empty_hub}
use Rattle.rr_protocol.specs.Limits.{hub_refusal}
use Rattle.rr_protocol.specs.declared.command.Command.{Command}
use Rattle.rr_protocol.specs.declared.reply.Reply.{Reply}
use Rattle.rr_protocol.specs.PortRun.{PortStep, PortEvent, PortRun}
use Rattle.rr_protocol.specs.AnswerRule.{creates_waiting, KeepsAnswerRule}
use Rattle.rr_laws.specs.Apart.{IsApart}
use Rattle.rr_laws.specs.Following.{MovesQuietly, Follows}
use Rattle.rr_laws.specs.Standing.{Stands}
use Rattle.rr_laws.specs.Completing.{Completes}
use Rattle.rr_laws.proofs.Telling.{IsSilent, silent}
use Rattle.rr_laws.proofs.FollowingCalls.{creates_server_quietly, creates_client_quietly, loan_tells, loan_follows, response_follows, sent_follows, changed_quietly, request_follows, unmoved}
use Rattle.rr_laws.proofs.MovingReceives.{no_request_quietly, no_response_quietly, refused_request_quietly, refused_response_quietly}
use Rattle.rr_laws.proofs.MovingSends.{unsent_response_moves, sent_request_quietly}
use Rattle.rr_laws.proofs.Changing.{hint_role, init_role}
use Rattle.rr_laws.proofs.MovingReleases.{after_release_quietly}
use Rattle.rr_laws.proofs.Following.{follows_silently}
use Rattle.rr_laws.proofs.PortSteps.{rewrites_change, port_step_keeps}
use Rattle.rr_laws.proofs.CompletingCalls.{server_completes, sent_completes, request_completes, response_completes, loan_completes, nothing_completes, release_completes, Steps, refused_completes, quiet_completes}
use Rattle.rr_laws.proofs.SettlingWrites.{SettlesQuietly, creates_client_settles, changed_settles, unsettled}
use Rattle.rr_laws.proofs.ApartSteps.{apart_kept}
use Rattle.rr_laws.proofs.Calling.{reached_kept}
use Rattle.rr_laws.proofs.SettlingResponses.{unsent_response_settles}
use Rattle.rr_laws.proofs.LastingSteps.{lasts_kept}
use Rattle.rr_laws.proofs.LeftRuns.{left_kept}
use Rattle.rr_laws.proofs.Senders.{senders_given}
use Rattle.rr_laws.proofs.Lasting.{lasts_by_frame}
use Rattle.rr_laws.proofs.SettlingSends.{sent_request_settles}
use Rattle.rr_laws.proofs.Leading.{Leads, KeepsStanding, leads_keep_answer_rule}

module _ {Q QH P PH K : Type 0} (action : K → ℕ → ℕ → BackpressureAction) (IsDefaultRequestHeader : QH → Type 0)
    (IsDefaultResponseHeader : PH → Type 0) (history : List (PortEvent K)) (old : State Q QH P PH K) (stands : Stands history old) where
  -- after an event that tells nothing
  quietly : (event : PortEvent K) (new : State Q QH P PH K) → IsSilent event → MovesQuietly old new → Follows (history ++ event ∷ []) new
  quietly event new quiet moves = follows_silently history event old new stands.follows quiet moves

  -- the new state follows from the history
  pub port_step_follows : (event : PortEvent K) (new : State Q QH P PH K) → IsApart new
      → PortStep action IsDefaultRequestHeader IsDefaultResponseHeader old event new → Follows (history ++ event ∷ []) new
  port_step_follows (Command.CreateClient settings, Reply.Created n) new after step = quietly _ new (silent _ _ refl)
      (creates_client_quietly old settings (Ok n) new step)
  port_step_follows (Command.CreateServer settings, Reply.Created n) new after step = quietly _ new (silent _ _ refl)
      (creates_server_quietly old settings (Ok n) new step)
  port_step_follows (Command.Loan n len, Reply.Loaned k) new after step = loan_follows history old stands.fits stands.follows
      IsDefaultRequestHeader IsDefaultResponseHeader _ n len k new (loan_tells n len k) step new (unmoved new new refl)
  port_step_follows (Command.Set n i v, Reply.Flag true) new after step = let written = rewrites_change old n new step in
      quietly _ new (silent _ _ refl) (changed_quietly old new n written.0 written.1 written.2)
  port_step_follows (Command.AssumeInit n, Reply.Done) new after step = quietly _ new (silent _ _ refl)
      (changed_quietly old new n after_init init_role step)
  port_step_follows (Command.Send n, Reply.Pending k connections) new after step = quietly _ new (silent _ _ refl)
      (sent_request_quietly action old stands.fits stands.apart n (Ok connections) new step.1)
  port_step_follows (Command.Send n, Reply.RequestError e) new after step = quietly _ new (silent _ _ refl)
      (sent_request_quietly action old stands.fits stands.apart n (Err e) new step)
  port_step_follows (Command.Send n, Reply.Sent k) new after step =
      sent_follows action history old stands.fits stands.apart stands.follows n k new step.0 step.1
  port_step_follows (Command.Send n, Reply.SendError e) new after step = quietly _ new (silent _ _ refl)
      (unsent_response_moves ℕ action old stands.fits n e new step).0
  port_step_follows (Command.Receive n, Reply.Active a r) new after step =
      request_follows history old stands.fits stands.follows n a r new step.0 step.1
  port_step_follows (Command.Receive n, Reply.Response k) new after step =
      response_follows action history old stands.fits stands.apart stands.follows n k new after step
  port_step_follows (Command.Receive n, Reply.Nothing) new after step = quietly _ new (silent _ _ refl)
      (⊎_elim (no_request_quietly old n new) (no_response_quietly old n new) step)
  port_step_follows (Command.Receive n, Reply.ReceiveError e) new after step = quietly _ new (silent _ _ refl)
      (⊎_elim (refused_request_quietly old n e new) (refused_response_quietly old n e new) step)
  port_step_follows (Command.SetHint n, Reply.Done) new after step = quietly _ new (silent _ _ refl)
      (changed_quietly old new n with_hint hint_role step)
  port_step_follows (Command.Release n, Reply.Done) new after step = quietly _ new (silent _ _ refl)
      (subst (λ (x : State Q QH P PH K). MovesQuietly old x) (sym step) (after_release_quietly old n stands.fits))
  port_step_follows event new after step = absurd step

  -- after an event that tells nothing, and creates and releases no server
  silently : (event : PortEvent K) (new : State Q QH P PH K) → IsSilent event → ((n : ℕ) → creates_waiting n event ≡ false)
      → Steps history old event.0 event.1 new → MovesQuietly old new → SettlesQuietly old new → Completes (history ++ event ∷ []) new
  silently event new = quiet_completes history old stands event.0 event.1 new

  -- a request has received all that does not stand in a list
  pub port_step_completes : (event : PortEvent K) (new : State Q QH P PH K) → IsApart new → Steps history old event.0 event.1 new
      → PortStep action IsDefaultRequestHeader IsDefaultResponseHeader old event new → Completes (history ++ event ∷ []) new
  port_step_completes (Command.CreateClient settings, Reply.Created n) new after steps step = silently _ new (silent _ _ refl) (λ k. refl)
      steps (creates_client_quietly old settings (Ok n) new step) (creates_client_settles old settings (Ok n) new step)
  port_step_completes (Command.CreateServer settings, Reply.Created n) new after steps step =
      server_completes history old stands Sliced settings n new steps step
  port_step_completes (Command.Loan n len, Reply.Loaned k) new after steps step = loan_completes history old stands IsDefaultRequestHeader
      IsDefaultResponseHeader _ _ n len k new (loan_tells n len k) (λ k. refl) step new (unmoved new new refl) (unsettled new new refl)
      steps
  port_step_completes (Command.Set n i v, Reply.Flag true) new after steps step = let written = rewrites_change old n new step in
      silently _ new (silent _ _ refl) (λ k. refl) steps (changed_quietly old new n written.0 written.1 written.2)
      (changed_settles old new n written.0 written.1 written.2)
  port_step_completes (Command.AssumeInit n, Reply.Done) new after steps step = silently _ new (silent _ _ refl) (λ k. refl) steps
      (changed_quietly old new n after_init init_role step) (changed_settles old new n after_init init_role step)
  port_step_completes (Command.Send n, Reply.Pending k connections) new after steps step = silently _ new (silent _ _ refl) (λ k. refl)
      steps (sent_request_quietly action old stands.fits stands.apart n (Ok connections) new step.1)
      (sent_request_settles action old stands.fits stands.apart stands.left n (Ok connections) new step.1 (λ server q e. inr (inr (q, e))))
  port_step_completes (Command.Send n, Reply.RequestError e) new after steps step = silently _ new (silent _ _ refl) (λ k. refl) steps
      (sent_request_quietly action old stands.fits stands.apart n (Err e) new step)
      (sent_request_settles action old stands.fits stands.apart stands.left n (Err e) new step (λ server q e. inr (inr (q, e))))
  port_step_completes (Command.Send n, Reply.Sent k) new after steps step =
      sent_completes history old stands action n k new step.0 steps step.1
  port_step_completes (Command.Send n, Reply.SendError e) new after steps step = silently _ new (silent _ _ refl) (λ k. refl) steps
      (unsent_response_moves ℕ action old stands.fits n e new step).0
      (unsent_response_settles ℕ action old stands.fits stands.apart stands.left n e new step)
  port_step_completes (Command.Receive n, Reply.Active a r) new after steps step =
      request_completes history old stands n a r new steps step.0 step.1
  port_step_completes (Command.Receive n, Reply.Response k) new after steps step =
      response_completes history old stands n k new after steps step
  port_step_completes (Command.Receive n, Reply.Nothing) new after steps step = nothing_completes history old stands n new steps step
  port_step_completes (Command.Receive n, Reply.ReceiveError e) new after steps step =
      refused_completes history old stands n e new steps step
  port_step_completes (Command.SetHint n, Reply.Done) new after steps step = silently _ new (silent _ _ refl) (λ k. refl) steps
      (changed_quietly old new n with_hint hint_role step) (changed_settles old new n with_hint hint_role step)
  port_step_completes (Command.Release n, Reply.Done) new after steps step = release_completes history old stands n new steps step
  port_step_completes event new after steps step = absurd step

  -- all that holds of the history and the old state holds with the event, and the limits stay
  pub port_step_stands : (event : PortEvent K) (new : State Q QH P PH K)
      → PortStep action IsDefaultRequestHeader IsDefaultResponseHeader old event new
      → Stands (history ++ event ∷ []) new × (new.limits ≡ old.limits)
  port_step_stands event new step =
      let fits = port_step_keeps action IsDefaultRequestHeader IsDefaultResponseHeader
      (reached_kept action IsDefaultRequestHeader IsDefaultResponseHeader) old stands.fits stands.fits (λ n. tt) event new step in
      let apart = port_step_keeps action IsDefaultRequestHeader IsDefaultResponseHeader
      (apart_kept action IsDefaultRequestHeader IsDefaultResponseHeader) old stands.fits stands.apart (λ n. tt) event new step in
      let left = port_step_keeps action IsDefaultRequestHeader IsDefaultResponseHeader
      (left_kept action IsDefaultRequestHeader IsDefaultResponseHeader) old stands.fits stands.left (senders_given history old stands)
      event new step in
      let lasts = port_step_keeps action IsDefaultRequestHeader IsDefaultResponseHeader
      (lasts_kept action IsDefaultRequestHeader IsDefaultResponseHeader old) old stands.fits (lasts_by_frame old old refl) (λ n. tt)
      event new step in
      let follows = port_step_follows event new apart step in (
        record {
          fits = fits;
          apart = apart;
          left = left;
          follows = follows;
          completes = port_step_completes event new apart (follows, lasts.limits) step;
        },
        lasts.limits,
      )

module _ {Q QH P PH K : Type 0} (action : K → ℕ → ℕ → BackpressureAction) (IsDefaultRequestHeader : QH → Type 0)
    (IsDefaultResponseHeader : PH → Type 0) where
  -- a step of a run of ports
  abbrev Goes : State Q QH P PH K → PortEvent K → State Q QH P PH K → Type 0
  Goes = PortStep action IsDefaultRequestHeader IsDefaultResponseHeader

  -- each step keeps what holds of a history and its state
  ports_keep : KeepsStanding Goes
  ports_keep = record {
    stands = λ history old stands event new step. port_step_stands action IsDefaultRequestHeader IsDefaultResponseHeader history old stands
        event new step;
    responds = λ old p k new step. step;
    finds_nothing = λ old p new step. step;
  }

  -- a run of ports is made of such steps
  port_run_leads : (old : State Q QH P PH K) (history : List (PortEvent K)) (new : State Q QH P PH K)
      → PortRun action IsDefaultRequestHeader IsDefaultResponseHeader old history new → Leads Goes old history new
  port_run_leads old [] new run = run
  port_run_leads old (event ∷ events) new run = (run.0, run.1, port_run_leads run.0 events new run.2)

  -- the answer rule holds of every run of ports from the empty hub
  pub port_run_keeps_answer_rule : (limits : Limits) (node_id : ℕ) → hub_refusal limits ≡ None
      → (history : List (PortEvent K)) (s : State Q QH P PH K)
      → PortRun action IsDefaultRequestHeader IsDefaultResponseHeader (empty_hub limits node_id) history s → KeepsAnswerRule limits history
  port_run_keeps_answer_rule limits node_id makes_hub history s run = leads_keep_answer_rule Goes ports_keep limits node_id makes_hub
      history s (port_run_leads (empty_hub limits node_id) history s run)

-- The state that a run reaches follows from its history, so responses reach the request that they answer, once and in order.
use Rattle.std.proofs.Common.{◌≡◌, ℕ, false, List, [], ◌∷◌, ◌++◌, map, Option, Some, None, MatchOption, refl, sym, ap, ◌∙◌, append_assoc, subst}
use Rattle.std.proofs.lemmas.List.{append-nil}
use Rattle.rr_slots.specs.declared.family.Family.{Family}
use Rattle.rr_protocol.specs.declared.limits.Limits.{Limits}
use Rattle.rr_protocol.specs.declared.settings.BackpressureAction.{BackpressureAction}
use Rattle.rr_protocol.specs.Limits.{hub_refusal}
use Rattle.rr_protocol.specs.State.{State, empty_hub}
use Rattle.rr_protocol.specs.declared.command.Command.{Command}
use Rattle.rr_protocol.specs.declared.reply.Reply.{Reply}
use Rattle.rr_protocol.specs.Refusals.{refusal}
use Rattle.rr_protocol.specs.Step.{Acts, Step}
use Rattle.rr_protocol.specs.Run.{Run}
use Rattle.rr_protocol.specs.AnswerRule.{Event, AnswersTheRequest, ReceivesOnce, ReceivesInOrder}
use Rattle.rr_laws.specs.Reached.{IsReached}
use Rattle.rr_laws.specs.Apart.{IsApart}
use Rattle.rr_laws.specs.Following.{Follows}
use Rattle.rr_laws.proofs.Stepping.{step_reached}
use Rattle.rr_laws.proofs.ApartSteps.{step_apart}
use Rattle.rr_laws.proofs.Occurring.{false_is_true}
use Rattle.rr_laws.proofs.Telling.{is_refusing, refusal_refuses}
use Rattle.rr_laws.proofs.FollowingSteps.{step_follows}
use Rattle.rr_laws.proofs.LeftRuns.{step_left}
use Rattle.rr_laws.proofs.CompletingSteps.{step_completes}
use Rattle.rr_laws.proofs.Leading.{Leads, KeepsStanding, leads_once, leads_answer, leads_from_empty, leads_in_order}
use Rattle.rr_laws.proofs.LastingSteps.{step_lasts}

module _ {T H K : Type 0} (action : K → ℕ → ℕ → BackpressureAction) (IsDefaultElement : T → Type 0) (IsDefaultHeader : H → Type 0)
    (family : Family) where
  -- whatever is run, the state follows from the history
  pub run_follows : (before : List (Event T H K)) (old : State T H T H K) → IsReached old → IsApart old → Follows before old
      → (events : List (Event T H K)) (new : State T H T H K) →
      Run action IsDefaultElement IsDefaultHeader family old (map (λ e. e.0) events) (map (λ e. e.1) events) new
      → Follows (before ++ events) new
  run_follows before old fits apart follows [] new run =
      subst (λ (x : State T H T H K). Follows (before ++ []) x) (sym run) (subst (λ h. Follows h old) (sym (append-nil before)) follows)
  run_follows before old fits apart follows (event ∷ events) new run =
      let mid_fits = step_reached action IsDefaultElement IsDefaultHeader family old fits event.0 event.1 run.0 run.1 in
      let mid_apart = step_apart action IsDefaultElement IsDefaultHeader family old fits apart event.0 event.1 run.0 run.1 in
      subst (λ h. Follows h new) (append_assoc before (event ∷ []) events)
      (run_follows (before ++ event ∷ []) run.0 mid_fits mid_apart
      (step_follows action IsDefaultElement IsDefaultHeader family before old fits apart follows event.0 event.1 run.0 mid_apart run.1)
      events new run.2)

  -- a run up to one of its events, that step, and the rest
  pub run_at : (before : List (Event T H K)) (event : Event T H K) (after : List (Event T H K)) (old new : State T H T H K) →
      Run action IsDefaultElement IsDefaultHeader family old (map (λ e. e.0) (before ++ event ∷ after))
      (map (λ e. e.1) (before ++ event ∷ after)) new →
      (mid next : State T H T H K) × Run action IsDefaultElement IsDefaultHeader family old (map (λ e. e.0) before)
      (map (λ e. e.1) before) mid
      × Step action IsDefaultElement IsDefaultHeader family mid event.0 event.1 next
  run_at [] event after old new run = (old, run.0, refl, run.1)
  run_at (first ∷ before) event after old new run =
      let rest = run_at before event after run.0 new run.2 in
      (rest.0, rest.1, (run.0, run.1, rest.2), rest.3)

  -- a step that is answered as no refusal acts
  pub step_acts : (s : State T H T H K) (command : Command T H K) (reply : Reply T H) (new : State T H T H K) → is_refusing reply ≡ false
      → Step action IsDefaultElement IsDefaultHeader family s command reply new →
      Acts action IsDefaultElement IsDefaultHeader family s command reply new
  step_acts s command reply new acts step = go (refusal family s command) refl step
    where
      go : (o : Option (Reply T H)) → refusal family s command ≡ o
          → MatchOption o (Acts action IsDefaultElement IsDefaultHeader family s command reply new)
          (λ refused. (reply ≡ refused) × (new ≡ s)) →
          Acts action IsDefaultElement IsDefaultHeader family s command reply new
      go None due step = step
      go (Some refused) due step = absurd (false_is_true (sym acts ∙ ap is_refusing step.0 ∙ refusal_refuses family s command refused due))

  -- what a command does that is answered
  abbrev pub Goes : State T H T H K → Event T H K → State T H T H K → Type 0
  Goes old event new = Step action IsDefaultElement IsDefaultHeader family old event.0 event.1 new

  -- each step keeps what holds of a history and its state
  pub step_stands : KeepsStanding Goes
  step_stands = record {
    stands = λ history old stands event new step.
        let apart = step_apart action IsDefaultElement IsDefaultHeader family old stands.fits stands.apart event.0 event.1 new step in
        let limits = (step_lasts action IsDefaultElement IsDefaultHeader family old event.0 event.1 new step).limits in
        let follows = step_follows action IsDefaultElement IsDefaultHeader family history old stands.fits stands.apart stands.follows
        event.0 event.1 new apart step in (
          record {
            fits = step_reached action IsDefaultElement IsDefaultHeader family old stands.fits event.0 event.1 new step;
            apart = apart;
            left = step_left action IsDefaultElement IsDefaultHeader family old stands.fits stands.left event.0 event.1 new step;
            follows = follows;
            completes = step_completes action IsDefaultElement IsDefaultHeader family history old stands.fits stands.apart stands.left
                stands.follows stands.completes event.0 event.1 new apart (follows, limits) step;
          },
          limits,
        );
    responds = λ old p k new step. step_acts old (Command.Receive p) (Reply.Response k) new refl step;
    finds_nothing = λ old p new step. step_acts old (Command.Receive p) Reply.Nothing new refl step;
  }

  -- a run is made of such steps
  pub run_leads : (old : State T H T H K) (events : List (Event T H K)) (new : State T H T H K) →
      Run action IsDefaultElement IsDefaultHeader family old (map (λ e. e.0) events) (map (λ e. e.1) events) new → Leads Goes old events new
  run_leads old [] new run = run
  run_leads old (event ∷ events) new run = (run.0, run.1, run_leads run.0 events new run.2)

  module _ (limits : Limits) (node_id : ℕ) (makes_hub : hub_refusal limits ≡ None) where
    -- all that holds of a history from the empty hub and its state
    pub stands_from_empty : (history : List (Event T H K)) (s : State T H T H K)
        → Run action IsDefaultElement IsDefaultHeader family (empty_hub limits node_id) (map (λ e. e.0) history) (map (λ e. e.1) history) s
        →
        IsReached s × IsApart s × Follows history s
    stands_from_empty history s run =
        let stands = (leads_from_empty Goes step_stands limits node_id makes_hub history s
        (run_leads (empty_hub limits node_id) history s run)).0 in
        (stands.fits, stands.apart, stands.follows)

    -- what a request receives answers it
    pub answers_the_request : (history : List (Event T H K)) (s : State T H T H K)
        → Run action IsDefaultElement IsDefaultHeader family (empty_hub limits node_id) (map (λ e. e.0) history) (map (λ e. e.1) history) s
        →
        AnswersTheRequest history
    answers_the_request history s run = leads_answer Goes step_stands limits node_id makes_hub history s
        (run_leads (empty_hub limits node_id) history s run)

    -- nothing is received twice
    pub receives_once : (history : List (Event T H K)) (s : State T H T H K)
        → Run action IsDefaultElement IsDefaultHeader family (empty_hub limits node_id) (map (λ e. e.0) history) (map (λ e. e.1) history) s
        →
        ReceivesOnce history
    receives_once history s run = leads_once Goes step_stands limits node_id makes_hub history s
        (run_leads (empty_hub limits node_id) history s run)

    -- what is received was sent, in this order
    pub receives_in_order : (history : List (Event T H K)) (s : State T H T H K)
        → Run action IsDefaultElement IsDefaultHeader family (empty_hub limits node_id) (map (λ e. e.0) history) (map (λ e. e.1) history) s
        →
        ReceivesInOrder history
    receives_in_order history s run = leads_in_order Goes step_stands limits node_id makes_hub history s
        (run_leads (empty_hub limits node_id) history s run)

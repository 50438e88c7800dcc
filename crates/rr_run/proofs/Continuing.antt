-- What a run appends to a history keeps the answer rule.
use Rattle.std.proofs.Common.{◌≡◌, ℕ, List, ◌++◌, map, None, Ok, sym, ◌∙◌, subst}
use Rattle.std.proofs.lemmas.List.{append_cancel_left, map-append}
use Rattle.rr_slots.specs.declared.family.Family.{Family}
use Rattle.rr_protocol.specs.declared.settings.BackpressureAction.{BackpressureAction}
use Rattle.rr_protocol.specs.declared.limits.Limits.{Limits}
use Rattle.rr_protocol.specs.Limits.{hub_refusal}
use Rattle.rr_protocol.specs.State.{State, empty_hub}
use Rattle.rr_protocol.specs.declared.command.Command.{Command}
use Rattle.rr_protocol.specs.declared.reply.Reply.{Reply}
use Rattle.rr_protocol.specs.Run.{Run, RunsAppending}
use Rattle.rr_protocol.specs.Continuing.{LeadsTo, GoesOn}
use Rattle.rr_protocol.proofs.RunLaws.{run_then_run}
use Rattle.rr_protocol.specs.AnswerRule.{Event}
use Rattle.rr_laws.specs.Bound.{BoundsRequests, BoundsResponses}
use Rattle.rr_laws.specs.Whole.{NeverRunsDry}
use Rattle.rr_laws.proofs.AnswerRuleHolds.{keeps_answer_rule}
use Rattle.rr_laws.proofs.Bounds.{of_runs, requests_bounded, responses_bounded}
use Rattle.rr_laws.proofs.WholePools.{never_runs_dry}
use Rattle.rr_run.specs.Headline.{HoldsOn}

module _ {T H K : Type 0} (action : K → ℕ → ℕ → BackpressureAction) (IsDefaultElement : T → Type 0) (IsDefaultHeader : H → Type 0)
    (family : Family) where
  -- a history goes on with a run
  pub goes_on : (old new : State T H T H K) (commands : List (Command T H K)) (before after : List (Reply T H)) →
      RunsAppending action IsDefaultElement IsDefaultHeader family {U = ℕ} {E = ℕ} old commands before (Ok 0) new after →
      GoesOn action IsDefaultElement IsDefaultHeader family {U = ℕ} {E = ℕ} old commands before (Ok 0) new after
  goes_on old new commands before after ran limits node_id history events makes_hub led commands_are replies_are =
      (all, keeps_answer_rule action IsDefaultElement IsDefaultHeader family limits node_id makes_hub (history ++ events) new all)
    where
      same_replies : ran.0 ≡ map (λ e. e.1) events
      same_replies = append_cancel_left before ran.0 (map (λ e. e.1) events) (sym ran.1 ∙ replies_are)

      of_events : Run action IsDefaultElement IsDefaultHeader family old (map (λ e. e.0) events) (map (λ e. e.1) events) new
      of_events =
          subst (λ cs. Run action IsDefaultElement IsDefaultHeader family old cs (map (λ e. e.1) events) new) (sym commands_are)
          (subst (λ rs. Run action IsDefaultElement IsDefaultHeader family old commands rs new) same_replies ran.2)

      both : Run action IsDefaultElement IsDefaultHeader family (empty_hub limits node_id) (map (λ e. e.0) history ++ map (λ e. e.0) events)
          (map (λ e. e.1) history ++ map (λ e. e.1) events) new
      both =
          run_then_run action IsDefaultElement IsDefaultHeader family (map (λ e. e.0) history) (map (λ e. e.1) history)
          (map (λ e. e.0) events) (map (λ e. e.1) events)
          (empty_hub limits node_id) old new led of_events

      all : LeadsTo action IsDefaultElement IsDefaultHeader family limits node_id (history ++ events) new
      all =
          subst (λ cs. Run action IsDefaultElement IsDefaultHeader family (empty_hub limits node_id) cs
          (map (λ e. e.1) (history ++ events)) new) (sym (map-append (λ e. e.0) history events))
          (subst (λ rs. Run action IsDefaultElement IsDefaultHeader family (empty_hub limits node_id)
          (map (λ e. e.0) history ++ map (λ e. e.0) events) rs new) (sym (map-append (λ e. e.1) history events)) both)

  -- and what holds of every history holds of that one
  pub holds_on : (R : Limits → List (Event T H K) → State T H T H K → Type 0)
      → ((limits : Limits) (node_id : ℕ) → hub_refusal limits ≡ None → (history : List (Event T H K)) (s : State T H T H K)
      → LeadsTo action IsDefaultElement IsDefaultHeader family limits node_id history s → R limits history s)
      → (old new : State T H T H K) (commands : List (Command T H K)) (before after : List (Reply T H))
      → RunsAppending action IsDefaultElement IsDefaultHeader family {U = ℕ} {E = ℕ} old commands before (Ok 0) new after
      → HoldsOn action IsDefaultElement IsDefaultHeader family {U = ℕ} {E = ℕ} R old commands before (Ok 0) new after
  holds_on R law old new commands before after ran limits node_id history events makes_hub led commands_are replies_are =
      law limits node_id makes_hub (history ++ events) new
      (goes_on old new commands before after ran limits node_id history events makes_hub led commands_are replies_are).0

  -- so a port's live messages stay within the worst case
  pub bounded : (old new : State T H T H K) (commands : List (Command T H K)) (before after : List (Reply T H))
      → RunsAppending action IsDefaultElement IsDefaultHeader family {U = ℕ} {E = ℕ} old commands before (Ok 0) new after
      → HoldsOn action IsDefaultElement IsDefaultHeader family {U = ℕ} {E = ℕ}
      (λ limits history s. BoundsRequests limits s × BoundsResponses limits s) old commands before (Ok 0) new after
  bounded = holds_on (λ limits history s. BoundsRequests limits s × BoundsResponses limits s)
      (λ limits node_id makes_hub history s led. (
        of_runs IsDefaultElement IsDefaultHeader (λ limits s. BoundsRequests limits s) (λ s fits. requests_bounded s fits) limits node_id
            makes_hub action family (map (λ e. e.0) history) (map (λ e. e.1) history) s led,
        of_runs IsDefaultElement IsDefaultHeader (λ limits s. BoundsResponses limits s) (λ s fits. responses_bounded s fits) limits node_id
            makes_hub action family (map (λ e. e.0) history) (map (λ e. e.1) history) s led,
      ))

  -- and a whole pool never runs dry
  pub never_dry : (old new : State T H T H K) (commands : List (Command T H K)) (before after : List (Reply T H))
      → RunsAppending action IsDefaultElement IsDefaultHeader family {U = ℕ} {E = ℕ} old commands before (Ok 0) new after
      → HoldsOn action IsDefaultElement IsDefaultHeader family {U = ℕ} {E = ℕ}
      (λ limits history s. NeverRunsDry family limits history) old commands before (Ok 0) new after
  never_dry = holds_on (λ limits history s. NeverRunsDry family limits history)
      (λ limits node_id makes_hub history s led. never_runs_dry action IsDefaultElement IsDefaultHeader family limits node_id makes_hub
      history s led)

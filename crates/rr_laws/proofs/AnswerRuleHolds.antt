-- Every history from an empty hub keeps the answer rule.
use Rattle.std.proofs.Common.{◌≡◌, ℕ, false, List, map, None, ◌++◌}
use Rattle.rr_slots.specs.declared.family.Family.{Family}
use Rattle.rr_protocol.specs.declared.limits.Limits.{Limits}
use Rattle.rr_protocol.specs.declared.settings.BackpressureAction.{BackpressureAction}
use Rattle.rr_protocol.specs.Limits.{hub_refusal}
use Rattle.rr_protocol.specs.State.{State, empty_hub}
use Rattle.rr_protocol.specs.Run.{Run}
use Rattle.rr_protocol.specs.AnswerRule.{Event, ReceivesWithoutGap, ReceivesAll, KeepsAnswerRule}
use Rattle.rr_laws.specs.Following.{Follows}
use Rattle.rr_laws.specs.Completing.{Completes}
use Rattle.rr_laws.specs.Left.{IsLeftFit}
use Rattle.rr_laws.specs.Apart.{IsApart}
use Rattle.rr_laws.specs.Standing.{Stands}
use Rattle.rr_laws.specs.Reached.{IsReached}
use Rattle.rr_laws.proofs.Histories.{Goes, step_stands, run_leads}
use Rattle.rr_laws.proofs.Leading.{leads_keep_answer_rule, leads_all, leads_without_gap, leads_stand}

module _ {T H K : Type 0} (action : K → ℕ → ℕ → BackpressureAction) (IsDefaultElement : T → Type 0) (IsDefaultHeader : H → Type 0)
    (family : Family) where
  -- whatever is run, a request has received all that does not stand in a list
  pub run_completes : (before : List (Event T H K)) (old : State T H T H K) → IsReached old → IsApart old → IsLeftFit old
      → Follows before old → Completes before old → (events : List (Event T H K)) (new : State T H T H K) →
      Run action IsDefaultElement IsDefaultHeader family old (map (λ e. e.0) events) (map (λ e. e.1) events) new
      → Follows (before ++ events) new × Completes (before ++ events) new
  run_completes before old fits apart left follows completes events new run =
      let start : Stands before old = record { fits = fits; apart = apart; left = left; follows = follows; completes = completes } in
      let stands = (leads_stand (Goes action IsDefaultElement IsDefaultHeader family)
      (step_stands action IsDefaultElement IsDefaultHeader family) before old start events new
      (run_leads action IsDefaultElement IsDefaultHeader family old events new run)).0 in
      (stands.follows, stands.completes)

module _ {T H K : Type 0} (action : K → ℕ → ℕ → BackpressureAction) (IsDefaultElement : T → Type 0) (IsDefaultHeader : H → Type 0)
    (family : Family) (limits : Limits) (node_id : ℕ) (makes_hub : hub_refusal limits ≡ None) where
  -- what is received from a server that waits for room has no gap
  pub receives_without_gap : limits.enable_safe_overflow_for_responses ≡ false → (history : List (Event T H K)) (s : State T H T H K) →
      Run action IsDefaultElement IsDefaultHeader family (empty_hub limits node_id) (map (λ e. e.0) history) (map (λ e. e.1) history) s
      → ReceivesWithoutGap history
  receives_without_gap no_overflow history s run =
      leads_without_gap (Goes action IsDefaultElement IsDefaultHeader family)
      (step_stands action IsDefaultElement IsDefaultHeader family) limits node_id makes_hub history s
      (run_leads action IsDefaultElement IsDefaultHeader family (empty_hub limits node_id) history s run) no_overflow

  -- where nothing is received, all that such a server sent was, if it was not released
  pub receives_all : limits.enable_safe_overflow_for_responses ≡ false → (history : List (Event T H K)) (s : State T H T H K) →
      Run action IsDefaultElement IsDefaultHeader family (empty_hub limits node_id) (map (λ e. e.0) history) (map (λ e. e.1) history) s
      → ReceivesAll history
  receives_all no_overflow history s run =
      leads_all (Goes action IsDefaultElement IsDefaultHeader family)
      (step_stands action IsDefaultElement IsDefaultHeader family) limits node_id makes_hub history s
      (run_leads action IsDefaultElement IsDefaultHeader family (empty_hub limits node_id) history s run) no_overflow

  -- the answer rule
  pub keeps_answer_rule : (history : List (Event T H K)) (s : State T H T H K)
      → Run action IsDefaultElement IsDefaultHeader family (empty_hub limits node_id) (map (λ e. e.0) history) (map (λ e. e.1) history) s
      →
      KeepsAnswerRule limits history
  keeps_answer_rule history s run =
      leads_keep_answer_rule (Goes action IsDefaultElement IsDefaultHeader family)
      (step_stands action IsDefaultElement IsDefaultHeader family) limits node_id makes_hub history s
      (run_leads action IsDefaultElement IsDefaultHeader family (empty_hub limits node_id) history s run)

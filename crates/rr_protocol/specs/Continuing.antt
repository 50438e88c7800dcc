-- Extensions of histories.
use Rattle.std.specs.Prelude.{◌≡◌, ⊤, ℕ, List, ◌++◌, map, Result, Ok, Err, None}
use Rattle.rr_slots.specs.declared.family.Family.{Family}
use Rattle.rr_protocol.specs.declared.limits.Limits.{Limits}
use Rattle.rr_protocol.specs.declared.settings.BackpressureAction.{BackpressureAction}
use Rattle.rr_protocol.specs.Limits.{hub_refusal}
use Rattle.rr_protocol.specs.State.{State, empty_hub}
use Rattle.rr_protocol.specs.declared.command.Command.{Command}
use Rattle.rr_protocol.specs.declared.reply.Reply.{Reply}
use Rattle.rr_protocol.specs.AnswerRule.{Event, KeepsAnswerRule}
use Rattle.rr_protocol.specs.Run.{Run}

module _ {T H K : Type 0} (action : K → ℕ → ℕ → BackpressureAction) (IsDefaultElement : T → Type 0)
    (IsDefaultHeader : H → Type 0) (family : Family) where
  -- a history leads from an empty hub to a state
  abbrev pub LeadsTo : Limits → ℕ → List (Event T H K) → State T H T H K → Type 0
  LeadsTo limits node_id history state =
      Run action IsDefaultElement IsDefaultHeader family (empty_hub limits node_id) (map (λ e. e.0) history)
      (map (λ e. e.1) history) state

  -- for every history that leads from a hub that can be made to the old state: extended by these commands and the
  -- appended replies, it leads to the new state, and keeps the answer rule
  abbrev pub GoesOn : {U E : Type 0} → State T H T H K → List (Command T H K) → List (Reply T H) → Result U E
      → State T H T H K → List (Reply T H) → Type 0
  GoesOn old commands before (Ok _) new after =
      (limits : Limits) (node_id : ℕ) (history events : List (Event T H K)) → hub_refusal limits ≡ None
      → LeadsTo limits node_id history old →
      map (λ e. e.0) events ≡ commands → after ≡ before ++ map (λ e. e.1) events →
      LeadsTo limits node_id (history ++ events) new × KeepsAnswerRule limits (history ++ events)
  GoesOn old commands before (Err _) new after = ⊤

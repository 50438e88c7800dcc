-- Facts of every history: commands with their replies, from an empty hub on.
use Rattle.std.specs.Prelude.{◌≡◌, ℕ, List, map, None}
use Rattle.rr_slots.specs.declared.family.Family.{Family}
use Rattle.rr_protocol.specs.declared.limits.Limits.{Limits}
use Rattle.rr_protocol.specs.declared.settings.BackpressureAction.{BackpressureAction}
use Rattle.rr_protocol.specs.Limits.{hub_refusal}
use Rattle.rr_protocol.specs.State.{State, empty_hub}
use Rattle.rr_protocol.specs.AnswerRule.{Event}
use Rattle.rr_protocol.specs.Run.{Run}

module _ {T H K : Type 0} (IsDefaultElement : T → Type 0) (IsDefaultHeader : H → Type 0) where
  -- this holds of every list of commands and their replies that is a run of the family from an empty hub whose limits
  -- make a hub
  abbrev pub HoldsOfFamilies : (Family → Limits → List (Event T H K) → Type 0) → Type 0
  HoldsOfFamilies R =
      (limits : Limits) (node_id : ℕ) → hub_refusal limits ≡ None
      → (action : K → ℕ → ℕ → BackpressureAction) (family : Family) (history : List (Event T H K))
      (s : State T H T H K)
      → Run action IsDefaultElement IsDefaultHeader family (empty_hub limits node_id) (map (λ e. e.0) history)
      (map (λ e. e.1) history) s → R family limits history

  -- whatever the family, this does
  abbrev pub HoldsOfHistories : (Limits → List (Event T H K) → Type 0) → Type 0
  HoldsOfHistories R = HoldsOfFamilies (λ family. R)

-- The properties that a list of commands keeps, for every history before it.
use Rattle.std.specs.Prelude.{◌≡◌, ⊤, ℕ, List, ◌++◌, map, Result, Ok, Err, None}
use Rattle.rr_slots.specs.declared.family.Family.{Family}
use Rattle.rr_protocol.specs.declared.limits.Limits.{Limits}
use Rattle.rr_protocol.specs.declared.settings.BackpressureAction.{BackpressureAction}
use Rattle.rr_protocol.specs.Limits.{hub_refusal}
use Rattle.rr_protocol.specs.State.{State}
use Rattle.rr_protocol.specs.declared.command.Command.{Command}
use Rattle.rr_protocol.specs.declared.reply.Reply.{Reply}
use Rattle.rr_protocol.specs.AnswerRule.{Event}
use Rattle.rr_protocol.specs.Continuing.{LeadsTo}

module _ {T H K : Type 0} (action : K → ℕ → ℕ → BackpressureAction) (IsDefaultElement : T → Type 0)
    (IsDefaultHeader : H → Type 0) (family : Family) where
  -- for every history that leads from a hub that can be made to the old state: this holds of that history extended by
  -- these commands and the appended replies, and of the new state
  abbrev pub HoldsOn : {U E : Type 0} → (Limits → List (Event T H K) → State T H T H K → Type 0) → State T H T H K
      → List (Command T H K) → List (Reply T H) → Result U E → State T H T H K → List (Reply T H) → Type 0
  HoldsOn R old commands before (Ok _) new after =
      (limits : Limits) (node_id : ℕ) (history events : List (Event T H K)) → hub_refusal limits ≡ None
      → LeadsTo action IsDefaultElement IsDefaultHeader family limits node_id history old
      → map (λ e. e.0) events ≡ commands → after ≡ before ++ map (λ e. e.1) events → R limits (history ++ events) new
  HoldsOn R old commands before (Err _) new after = ⊤

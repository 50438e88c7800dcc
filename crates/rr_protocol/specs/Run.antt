-- Runs of the message machine.
use Rattle.std.specs.Prelude.{◌≡◌, ℕ, List, [], ◌∷◌, ◌++◌, map, Result, Ok, Err}
use Rattle.rr_slots.specs.declared.family.Family.{Family}
use Rattle.rr_protocol.specs.declared.settings.BackpressureAction.{BackpressureAction}
use Rattle.rr_protocol.specs.State.{State, empty_hub}
use Rattle.rr_protocol.specs.declared.command.Command.{Command}
use Rattle.rr_protocol.specs.declared.reply.Reply.{Reply}
use Rattle.rr_protocol.specs.Step.{Step}

module _ {T H K : Type 0} (action : K → ℕ → ℕ → BackpressureAction) (IsDefaultElement : T → Type 0)
    (IsDefaultHeader : H → Type 0) (family : Family) where
  -- the machine may answer these commands with these replies, one step after another
  abbrev pub Run : State T H T H K → List (Command T H K) → List (Reply T H) → State T H T H K → Type 0
  Run old [] [] new = new ≡ old
  Run old (command ∷ commands) (reply ∷ replies) new =
      (mid : State T H T H K) × Step action IsDefaultElement IsDefaultHeader family old command reply mid
      × Run mid commands replies new
  Run old [] (reply ∷ replies) new = ⊥
  Run old (command ∷ commands) [] new = ⊥

  -- the replies to these commands were appended to the old replies, or nothing changed
  abbrev pub RunsAppending : {U E : Type 0} → State T H T H K → List (Command T H K) → List (Reply T H) → Result U E
      → State T H T H K → List (Reply T H) → Type 0
  RunsAppending old commands before (Ok _) new after =
      (replies : List (Reply T H)) × (after ≡ before ++ replies) × Run old commands replies new
  RunsAppending old commands before (Err _) new after = (new ≡ old) × (after ≡ before)

  -- a history that leads from the empty hub with a state's limits and node id to that state
  abbrev pub IsLegal : State T H T H K → List (Command T H K × Reply T H) → Type 0
  IsLegal state history =
      Run (empty_hub state.limits state.node_id) (map (λ e. e.0) history) (map (λ e. e.1) history) state

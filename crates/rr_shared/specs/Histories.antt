-- The history that a seat has seen, and the effect of a call on it.
use Rattle.std.specs.Prelude.{◌≡◌, ◌≢◌, ℕ, List, [], ◌∷◌, ◌++◌, map}
use Rattle.rr_slots.specs.declared.family.Family.{Family}
use Rattle.rr_protocol.specs.declared.limits.Limits.{Limits}
use Rattle.rr_protocol.specs.declared.settings.BackpressureAction.{BackpressureAction}
use Rattle.rr_protocol.specs.State.{State}
use Rattle.rr_protocol.specs.declared.command.Command.{Command}
use Rattle.rr_protocol.specs.declared.reply.Reply.{Reply}
use Rattle.rr_protocol.specs.AnswerRule.{Event}
use Rattle.rr_protocol.specs.Continuing.{LeadsTo}
use Rattle.rr_log.specs.Entries.{entries_of}

-- a seat as contracts see it: its identity, and the calls that it has seen, each with its caller
abbrev pub Seated : Type 0 → Type 0 → Type 0 → Type 0
Seated T H K = ℕ × List (ℕ × Event T H K)

-- the calls without their callers
abbrev pub without_callers : {E : Type 0} → List (ℕ × E) → List E
without_callers calls = map (λ call. call.1) calls

module _ {T H K : Type 0} where
  -- the history that a seat has seen
  abbrev pub history_of : Seated T H K → List (Event T H K)
  history_of seat = without_callers seat.1

  -- a seat's history is extended by calls of others, and then by exactly this call, which is its own
  abbrev pub MakesCall : Command T H K → Reply T H → Seated T H K → Seated T H K → Type 0
  MakesCall command reply old new =
      (others : List (ℕ × Event T H K))
      × (new ≡ (old.0, (old.1 ++ others) ++ (old.0, (command, reply)) ∷ []))
      × (entries_of old.0 others ≡ [])

  -- a command may copy the elements of a message that has several, as none of the typed family has
  abbrev pub MayCopy : Family → Command T H K → Type 0
  MayCopy family (Command.Payload number) = family ≢ Family.Typed
  MayCopy family command = ⊥

module _ {T H K : Type 0} (action : K → ℕ → ℕ → BackpressureAction) (IsDefaultElement : T → Type 0)
    (IsDefaultHeader : H → Type 0)
    (family : Family) where
  -- a history leads from the empty hub to some state
  abbrev pub IsLegal : Limits → ℕ → List (Event T H K) → Type 0
  IsLegal limits node_id history =
      (now : State T H T H K) × LeadsTo action IsDefaultElement IsDefaultHeader family limits node_id history now

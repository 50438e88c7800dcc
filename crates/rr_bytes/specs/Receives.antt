-- The result of a receive by number.
use Rattle.std.specs.Prelude.{◌≡◌, ℕ, Option, Some, None, Result, Ok, Err}
use Rattle.rr_slots.specs.declared.family.Family.TheVariants.{Sliced}
use Rattle.rr_protocol.specs.declared.settings.BackpressureAction.{BackpressureAction}
use Rattle.rr_protocol.specs.State.{State}
use Rattle.rr_protocol.specs.declared.command.Command.{Command}
use Rattle.rr_protocol.specs.Step.{Step}
use Rattle.rr_checked.specs.declared.receives.Received.{Received}
use Rattle.rr_checked.specs.declared.receives.Received.TheVariants as received_as
use Rattle.rr_bytes.specs.declared.id.Id.{Id}
use Rattle.rr_checked.specs.declared.refusal.Refusal.{Refusal}
use Rattle.rr_checked.specs.Answers.{received, replied}

-- an active request or a response goes by its number, and a refusal by its name
abbrev pub IsNamed : Result (Option Received) Refusal → Result (Option Id) Refusal → Type 0
IsNamed (Ok (Some (received_as.Request k request))) (Ok (Some id)) = id.number ≡ k
IsNamed (Ok (Some (received_as.Response k))) (Ok (Some id)) = id.number ≡ k
IsNamed (Ok None) (Ok None) = Unit {0}
IsNamed (Err error) (Err named) = named ≡ error
IsNamed what named = ⊥

module _ {T H K : Type 0} (action : K → ℕ → ℕ → BackpressureAction) (IsDefaultElement : T → Type 0)
    (IsDefaultHeader : H → Type 0) where
  -- a received message is named by its number
  abbrev pub Receives : State T H T H K → ℕ → Result (Option Id) Refusal → State T H T H K → Type 0
  Receives old n named new =
      (what : Result (Option Received) Refusal)
      × Step action IsDefaultElement IsDefaultHeader Sliced old (Command.Receive n) (replied received what) new
      × IsNamed what named

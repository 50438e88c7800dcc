-- A loan of a message that is written in place.
use Rattle.std.specs.Prelude.{ℕ, Result, Ok, Err}
use Rattle.rr_slots.specs.declared.family.Family.TheVariants.{Sliced}
use Rattle.rr_protocol.specs.declared.settings.BackpressureAction.{BackpressureAction}
use Rattle.rr_protocol.specs.State.{State}
use Rattle.rr_protocol.specs.declared.command.Command.{Command}
use Rattle.rr_protocol.specs.declared.reply.Reply.{Reply}
use Rattle.rr_protocol.specs.Step.{Step}
use Rattle.rr_checked.specs.declared.refusal.Refusal.{Refusal}
use Rattle.rr_checked.specs.Answers.{refused}
use Rattle.rr_bytes.specs.declared.id.Id.{Id}
use Rattle.rr_bytes.specs.Completing.{Completes}

module _ {T H K : Type 0} (action : K → ℕ → ℕ → BackpressureAction) (IsDefaultElement : T → Type 0)
    (IsDefaultHeader : H → Type 0) where
  -- a message is loaned, and then made complete under its number; or the loan is refused
  abbrev pub LoansInPlace : State T H T H K → ℕ → ℕ → Result Id Refusal → State T H T H K → Type 0
  LoansInPlace old n len (Ok id) new =
      (mid : State T H T H K) × Step action IsDefaultElement IsDefaultHeader Sliced old (Command.Loan n len)
      (Reply.Loaned id.number) mid × Completes mid id.number (Ok tt) new
  LoansInPlace old n len (Err error) new =
      Step action IsDefaultElement IsDefaultHeader Sliced old (Command.Loan n len) (refused error) new

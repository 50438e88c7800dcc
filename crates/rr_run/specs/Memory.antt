-- The commands that may find no memory.
use Rattle.std.specs.Prelude.{◌≢◌, ⊤, ◌<◌, length, IsSomeAnd}
use Rattle.rr_slots.specs.declared.family.Family.{Family}
use Rattle.rr_protocol.specs.State.{State, handle_at}
use Rattle.rr_protocol.specs.declared.command.Command.{Command}
use Rattle.rr_protocol.specs.Refusals.{content_in}

module _ {T H K : Type 0} where
  -- a command may find no memory: it copies the elements of a message that has several, as none of the typed family
  -- has
  abbrev pub MayLackMemory : Family → State T H T H K → Command T H K → Type 0
  MayLackMemory family s (Command.Payload n) =
      (family ≢ Family.Typed) × IsSomeAnd (handle_at s n) (λ handle. 1 < length (content_in handle).elements)
  MayLackMemory family s command = ⊥

  -- the same, except for commands that no step of the machine answers with want of memory
  abbrev pub MayLackOrNeverDoes : Family → State T H T H K → Command T H K → Type 0
  MayLackOrNeverDoes family s (Command.Payload n) = MayLackMemory family s (Command.Payload n)
  MayLackOrNeverDoes family s (Command.CreateClient settings) = ⊥
  MayLackOrNeverDoes family s (Command.CreateServer settings) = ⊥
  MayLackOrNeverDoes family s (Command.Loan n len) = ⊥
  MayLackOrNeverDoes family s (Command.LoanDefault n len) = ⊥
  MayLackOrNeverDoes family s (Command.SendCopy n v) = ⊥
  MayLackOrNeverDoes family s (Command.Receive n) = ⊥
  MayLackOrNeverDoes family s command = ⊤

-- Laws of the histories that seats have seen.
use Rattle.std.specs.Prelude.{◌≡◌, ◌⊎◌, ⊤, ℕ, true, false, IfSome, IsTrue, List, [], ◌∷◌}
use Rattle.std.specs.List.{list_any}
use Rattle.rr_slots.specs.declared.family.Family.{Family}
use Rattle.rr_protocol.specs.declared.limits.Limits.{Limits}
use Rattle.rr_protocol.specs.declared.command.Command.{Command}
use Rattle.rr_protocol.specs.declared.reply.Reply.{Reply}
use Rattle.rr_protocol.specs.AnswerRule.{Event, is_active, is_loan, is_response, is_sent, is_sent_copy, occur_in_order}
use Rattle.rr_laws.specs.Unreduced.{asked_in, is_out_of_memory}
use Rattle.rr_laws.specs.Whole.{HasWholePool}
use Rattle.rr_log.specs.Entries.{entries_of}
use Rattle.rr_shared.specs.Histories.{Seated}

module _ {T H K : Type 0} where
  -- the calls of a seat itself, in order
  abbrev pub calls_of : Seated T H K → List (Event T H K)
  calls_of seat = entries_of seat.0 seat.1

  -- by one of them it received the response k
  abbrev pub HasReceived : ℕ → Seated T H K → Type 0
  HasReceived k seat = list_any (is_response k) (calls_of seat) ≡ true

  -- the response k was loaned from an active request of the request p, and sent after that
  abbrev pub WasSentFor : ℕ → ℕ → List (Event T H K) → Type 0
  WasSentFor p k history =
      (a : ℕ) × (IsTrue (occur_in_order (is_active a p ∷ is_loan a k ∷ is_sent k ∷ []) history)
      ⊎ IsTrue (occur_in_order (is_active a p ∷ is_sent_copy a k ∷ []) history))

  -- a response that a call receives was sent for the request
  abbrev pub IsAnswered : Command T H K → Reply T H → List (Event T H K) → Type 0
  IsAnswered (Command.Receive p) (Reply.Response k) history = WasSentFor p k history
  IsAnswered command reply history = ⊤

  -- if a call loans from a whole pool, the reply reports no want of memory
  abbrev pub FindsRoom : Family → Limits → Command T H K → Reply T H → List (Event T H K) → Type 0
  FindsRoom family limits command reply before =
      IfSome (asked_in command) (λ asked. HasWholePool family limits before asked.0 asked.1
      → is_out_of_memory reply ≡ false)

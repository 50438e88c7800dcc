-- Want of memory is answered to the commands that copy elements, and to no other.
use Rattle.std.proofs.Common.{◌≡◌, ℕ, Bool, true, false, cond, Option, None, Some, refl, sym, ap, ◌∙◌, subst}
use Rattle.std.specs.Prelude.{not, ◌&&◌, ◌==◌, MatchOption, option_and_then}
use Rattle.std.specs.Option.{option_map_or}
use Rattle.rr_slots.specs.declared.family.Family.{Family}
use Rattle.rr_protocol.specs.declared.kind.Kind.{Kind}
use Rattle.rr_protocol.specs.declared.settings.BackpressureAction.{BackpressureAction}
use Rattle.rr_protocol.specs.Queries.{kind_at}
use Rattle.rr_protocol.specs.State.{State, numbers_left}
use Rattle.rr_protocol.specs.declared.command.Command.{Command}
use Rattle.rr_protocol.specs.declared.reply.Reply.{Reply}
use Rattle.rr_protocol.specs.Refusals.{has_call, has_length, is_incomplete, needs_number, number_in, refusal, refusal_of_kind}
use Rattle.rr_protocol.specs.Step.{Acts, Step}
use Rattle.rr_run.specs.Memory.{MayLackMemory, MayLackOrNeverDoes}

module _ {T H : Type 0} where
  -- the refusal of a command that names something, by three tests
  abbrev refused_by : Bool → Bool → Bool → Option (Reply T H)
  refused_by a b c =
      cond a (Some Reply.WrongKind) (cond b (Some Reply.NumbersExhausted) (cond c (Some Reply.Incomplete) None))

  by_tests : (a b c : Bool) → refused_by a b c ≡ Some Reply.NoMemory → ⊥
  by_tests true b c e = let f : Some Reply.WrongKind ≡ Some Reply.NoMemory = e in cc
  by_tests false true c e = let f : Some Reply.NumbersExhausted ≡ Some Reply.NoMemory = e in cc
  by_tests false false true e = let f : Some Reply.Incomplete ≡ Some Reply.NoMemory = e in cc
  by_tests false false false e = let f : None ≡ Some Reply.NoMemory = e in cc

module _ {T H K : Type 0} (family : Family) (s : State T H T H K) (command : Command T H K) where
  -- no refusal that comes before a command acts is want of memory
  refused_otherwise : refusal family s command ≡ Some Reply.NoMemory → ⊥
  refused_otherwise is = by_number (number_in command) is
    where
      by_kind : (k : Option Kind) → option_map_or (refusal_of_kind family s command) k (Some Reply.Unknown) ≡ Some Reply.NoMemory → ⊥
      by_kind None e = let f : Some Reply.Unknown ≡ Some Reply.NoMemory = e in cc
      by_kind (Some kind) e =
          by_tests (not (has_call command kind && has_length family command)) (needs_number command kind && (numbers_left s == 0))
          (is_incomplete s command) e

      by_number : (o : Option ℕ)
          → option_and_then (λ n. option_map_or (refusal_of_kind family s command) (kind_at s n) (Some Reply.Unknown)) o ≡ Some Reply.NoMemory → ⊥
      by_number None e = let f : None ≡ Some Reply.NoMemory = e in cc
      by_number (Some n) e = by_kind (kind_at s n) e

module _ {T H K : Type 0} (action : K → ℕ → ℕ → BackpressureAction) (IsDefaultElement : T → Type 0) (IsDefaultHeader : H → Type 0)
    (family : Family) (old new : State T H T H K) where
  -- what the machine never answers so is no case
  acts_otherwise : (command : Command T H K) → Acts action IsDefaultElement IsDefaultHeader family old command Reply.NoMemory new
      → MayLackOrNeverDoes family old command → MayLackMemory family old command
  acts_otherwise (Command.CreateClient settings) h due = due
  acts_otherwise (Command.CreateServer settings) h due = due
  acts_otherwise (Command.Loan n len) h due = due
  acts_otherwise (Command.LoanDefault n len) h due = due
  acts_otherwise (Command.SendCopy n v) h due = due
  acts_otherwise (Command.Receive n) h due = due
  acts_otherwise (Command.Payload n) h due = due
  acts_otherwise command h due = absurd h

  pub memory_taken : (command : Command T H K) (reply : Reply T H)
      → Step action IsDefaultElement IsDefaultHeader family old command reply new
      → (reply ≡ Reply.NoMemory → MayLackOrNeverDoes family old command) → reply ≡ Reply.NoMemory → MayLackMemory family old command
  memory_taken command reply step due is = go (refusal family old command) refl step
    where
      go : (o : Option (Reply T H)) → refusal family old command ≡ o
          → MatchOption o (Acts action IsDefaultElement IsDefaultHeader family old command reply new) (λ refused. (reply ≡ refused) × (new ≡ old))
          → MayLackMemory family old command
      go None e h =
          acts_otherwise command (subst (λ r. Acts action IsDefaultElement IsDefaultHeader family old command r new) is h) (due is)
      go (Some refused) e h = absurd (refused_otherwise family old command (e ∙ (let f : refused ≡ Reply.NoMemory = sym h.0 ∙ is in ap Some f)))

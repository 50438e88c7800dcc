-- A step of the typed family is the step of the sliced family with slots and loans of one element, and the other way round.
use Rattle.std.proofs.Common.{◌≡◌, ℕ, true, ◌==◌, Option, Some, None, MatchOption, refl, sym, subst}
use Rattle.std.specs.Option.{option_map_or}
use Rattle.rr_slots.specs.declared.family.Family.TheVariants.{Typed, Sliced}
use Rattle.rr_protocol.specs.declared.settings.BackpressureAction.{BackpressureAction}
use Rattle.rr_protocol.specs.declared.kind.Kind.{Kind}
use Rattle.rr_protocol.specs.State.{State}
use Rattle.rr_protocol.specs.Queries.{kind_at}
use Rattle.rr_protocol.specs.declared.command.Command.{Command}
use Rattle.rr_protocol.specs.declared.reply.Reply.{Reply}
use Rattle.rr_protocol.specs.Refusals.{has_length, refusal_of_kind, refusal}
use Rattle.rr_protocol.specs.Step.{Acts, Step, client_settings, server_settings}

-- a command whose settings ask for slots of one element
abbrev pub with_typed_settings : {T H K : Type 0} → Command T H K → Command T H K
with_typed_settings (Command.CreateClient settings) = Command.CreateClient (client_settings Typed settings)
with_typed_settings (Command.CreateServer settings) = Command.CreateServer (server_settings Typed settings)
with_typed_settings command = command

-- a choice between what is refused and what acts, with another account of what acts
match_other : {X A B : Type 0} (P : X → Type 0) (o : Option X) → (A → B) → MatchOption o A P → MatchOption o B P
match_other P None f holds = f holds
match_other P (Some x) f holds = holds

module _ {T H K : Type 0} where
  -- what a loan of one element is refused for
  loan_alike : (old : State T H T H K) (n len : ℕ) (kind : Option Kind) → (len == 1) ≡ true →
      option_map_or (refusal_of_kind Typed old (Command.Loan n len)) kind (Some Reply.Unknown) ≡ option_map_or
      (refusal_of_kind Sliced old (Command.Loan n len)) kind (Some Reply.Unknown)
  loan_alike old n len None e = refl
  loan_alike old n len (Some kind) e = rw e refl

  default_alike : (old : State T H T H K) (n len : ℕ) (kind : Option Kind) → (len == 1) ≡ true →
      option_map_or (refusal_of_kind Typed old (Command.LoanDefault n len)) kind (Some Reply.Unknown) ≡ option_map_or
      (refusal_of_kind Sliced old (Command.LoanDefault n len)) kind (Some Reply.Unknown)
  default_alike old n len None e = refl
  default_alike old n len (Some kind) e = rw e refl

  pub refusal-with_typed_settings : (old : State T H T H K) (command : Command T H K) → has_length Typed command ≡ true
      → refusal Typed old command ≡ refusal Sliced old (with_typed_settings command)
  refusal-with_typed_settings old (Command.Loan n len) e = loan_alike old n len (kind_at old n) e
  refusal-with_typed_settings old (Command.LoanDefault n len) e = default_alike old n len (kind_at old n) e
  refusal-with_typed_settings old command e = refl

module _ {T H K : Type 0} (action : K → ℕ → ℕ → BackpressureAction) (IsDefaultElement : T → Type 0) (IsDefaultHeader : H → Type 0) where
  pub typed_acts_as_sliced : (old : State T H T H K) (command : Command T H K) (reply : Reply T H) (new : State T H T H K) →
      Acts action IsDefaultElement IsDefaultHeader Typed old command reply new
      → Acts action IsDefaultElement IsDefaultHeader Sliced old (with_typed_settings command) reply new
  typed_acts_as_sliced old (Command.CreateClient settings) reply new acts = acts
  typed_acts_as_sliced old (Command.CreateServer settings) reply new acts = acts
  typed_acts_as_sliced old command reply new acts = acts

  pub sliced_acts_as_typed : (old : State T H T H K) (command : Command T H K) (reply : Reply T H) (new : State T H T H K) →
      Acts action IsDefaultElement IsDefaultHeader Sliced old (with_typed_settings command) reply new
      → Acts action IsDefaultElement IsDefaultHeader Typed old command reply new
  sliced_acts_as_typed old (Command.CreateClient settings) reply new acts = acts
  sliced_acts_as_typed old (Command.CreateServer settings) reply new acts = acts
  sliced_acts_as_typed old command reply new acts = acts

  -- a typed step of a length that the family takes is a sliced step
  pub typed_steps_as_sliced : (old : State T H T H K) (command : Command T H K) (reply : Reply T H) (new : State T H T H K)
      → has_length Typed command ≡ true →
      Step action IsDefaultElement IsDefaultHeader Typed old command reply new
      → Step action IsDefaultElement IsDefaultHeader Sliced old (with_typed_settings command) reply new
  typed_steps_as_sliced old command reply new e step =
      let Chosen : Option (Reply T H) → Type 0 = λ o. MatchOption o
      (Acts action IsDefaultElement IsDefaultHeader Sliced old (with_typed_settings command) reply new)
      (λ refused. (reply ≡ refused) × (new ≡ old)) in
      subst Chosen (refusal-with_typed_settings old command e)
      (match_other _ (refusal Typed old command) (typed_acts_as_sliced old command reply new) step)

  -- and the other way round
  pub sliced_steps_as_typed : (old : State T H T H K) (command : Command T H K) (reply : Reply T H) (new : State T H T H K)
      → has_length Typed command ≡ true →
      Step action IsDefaultElement IsDefaultHeader Sliced old (with_typed_settings command) reply new
      → Step action IsDefaultElement IsDefaultHeader Typed old command reply new
  sliced_steps_as_typed old command reply new e step =
      let Chosen : Option (Reply T H) → Type 0 = λ o. MatchOption o
      (Acts action IsDefaultElement IsDefaultHeader Typed old command reply new) (λ refused. (reply ≡ refused) × (new ≡ old)) in
      subst Chosen (sym (refusal-with_typed_settings old command e))
      (match_other _ (refusal Sliced old (with_typed_settings command)) (sliced_acts_as_typed old command reply new) step)

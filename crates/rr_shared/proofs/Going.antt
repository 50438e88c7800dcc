-- A log that goes on by a call stays legal, and which commands may find no memory.
use Rattle.std.proofs.Common.{◌≡◌, ℕ, List, [], ◌∷◌, ◌++◌, ap, ◌∙◌, subst, sym}
use Rattle.std.proofs.lemmas.List.{map-append}
use Rattle.rr_slots.specs.declared.family.Family.{Family}
use Rattle.rr_protocol.specs.declared.limits.Limits.{Limits}
use Rattle.rr_protocol.specs.declared.settings.BackpressureAction.{BackpressureAction}
use Rattle.rr_protocol.specs.State.{State}
use Rattle.rr_protocol.specs.declared.command.Command.{Command}
use Rattle.rr_protocol.specs.declared.reply.Reply.{Reply}
use Rattle.rr_protocol.specs.AnswerRule.{Event}
use Rattle.rr_protocol.specs.Step.{Step}
use Rattle.rr_protocol.specs.Continuing.{LeadsTo}
use Rattle.rr_protocol.proofs.Continuing.{leads_on}
use Rattle.rr_run.specs.Memory.{MayLackMemory}
use Rattle.rr_shared.specs.Histories.{without_callers, MayCopy}

module _ {T H K : Type 0} (action : K → ℕ → ℕ → BackpressureAction) (IsDefaultElement : T → Type 0) (IsDefaultHeader : H → Type 0)
    (family : Family) where
  pub goes_on : (limits : Limits) (node_id caller : ℕ) (before after : List (ℕ × Event T H K)) (call : Event T H K)
      (old new : State T H T H K) (command : Command T H K) (reply : Reply T H)
      → after ≡ before ++ (caller, call) ∷ []
      → call ≡ (command, reply)
      → LeadsTo action IsDefaultElement IsDefaultHeader family limits node_id (without_callers before) old
      → Step action IsDefaultElement IsDefaultHeader family old command reply new
      → LeadsTo action IsDefaultElement IsDefaultHeader family limits node_id (without_callers after) new
  goes_on limits node_id caller before after call old new command reply is made led step =
      let longer : without_callers after ≡ without_callers before ++ (command, reply) ∷ [] =
      ap without_callers is ∙ (map-append (λ x. x.1) before ((caller, call) ∷ []) ∙ ap (λ e. without_callers before ++ e ∷ []) made) in
      subst (λ l. LeadsTo action IsDefaultElement IsDefaultHeader family limits node_id l new) (sym longer)
      (leads_on action IsDefaultElement IsDefaultHeader family limits node_id (without_callers before) old new command reply led step)

-- what was seen, others' calls and this one are what is seen now
pub made_call : {E : Type 0} (caller : ℕ) (seen others before after now : List (ℕ × E)) (call made : E)
    → before ≡ seen ++ others → after ≡ before ++ (caller, call) ∷ [] → now ≡ after → call ≡ made
    → now ≡ (seen ++ others) ++ (caller, made) ∷ []
made_call caller seen others before after now call made follows added shown is = shown ∙ (added ∙ (λ i. follows i ++ (caller, is i) ∷ []))

-- want of memory is for commands that copy elements
pub may_copy : {T H K : Type 0} (family : Family) (s : State T H T H K) (command : Command T H K) → MayLackMemory family s command
    → MayCopy family command
may_copy family s (Command.Payload number) lack = lack.0
may_copy family s command lack = absurd lack

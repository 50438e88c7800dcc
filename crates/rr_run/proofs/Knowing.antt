-- A runner that knows the place of each handle knows it after a step too.
use Rattle.std.proofs.Common.{◌≡◌, ℕ, Option, Some, None, sym, ap, ◌∙◌, subst, ⊎_elim, inr}
use Rattle.std.proofs.lemmas.Bool.{cases_eq}
use Rattle.rr_slots.specs.declared.family.Family.{Family}
use Rattle.rr_protocol.specs.declared.settings.BackpressureAction.{BackpressureAction}
use Rattle.rr_protocol.specs.State.{State, handle_at}
use Rattle.rr_protocol.specs.declared.command.Command.{Command}
use Rattle.rr_protocol.specs.declared.reply.Reply.{Reply}
use Rattle.rr_protocol.specs.Step.{Step}
use Rattle.rr_run.specs.declared.places.Places.{Places}
use Rattle.rr_run.specs.Known.{Forgets, ForgetsGone, KnowsHandles, Notes, Remembers, given}
use Rattle.rr_run.proofs.Handles.{Fewer, Gains}
use Rattle.rr_run.proofs.HandleSteps.{step_gains}

module _ {T H K : Type 0} (p q : Places) (old new : State T H T H K) (knows : KnowsHandles p old) where
  same_places : q ≡ p → Fewer old new → KnowsHandles q new
  same_places is fewer = subst (λ x. KnowsHandles x new) (sym is) (λ complete n none. fewer n (knows complete n none))

  remembered : (o : Option ℕ) → Gains o old new → Remembers p o q → KnowsHandles q new
  remembered None gains is = same_places is (λ k none. gains k (λ e. let f : None ≡ Some k = e in cc) none)
  remembered (Some n) gains added = λ complete k none.
      let a = added complete in
      gains k (λ e. (a.1 k none).1 (let f : Some n ≡ Some k = e in cc)) (knows a.0 k (a.1 k none).0)

  forgotten : (n : ℕ) → Fewer old new → ForgetsGone p n new q → KnowsHandles q new
  forgotten n fewer gone = ⊎_elim
      (λ is. same_places is fewer)
      (λ one. λ complete k none. ⊎_elim
      (λ is. ap (handle_at new) is ∙ one.1)
      (λ other. fewer k (knows (sym one.0.0 ∙ complete) k (sym (one.0.2 k other) ∙ none)))
      (cases_eq k n))
      gone

  module _ (action : K → ℕ → ℕ → BackpressureAction) (IsDefaultElement : T → Type 0) (IsDefaultHeader : H → Type 0) (family : Family) where
    pub still_known : (command : Command T H K) (reply : Reply T H)
        → Step action IsDefaultElement IsDefaultHeader family old command reply new → Notes p command reply new q → KnowsHandles q new
    still_known (Command.Send n) reply step notes = forgotten n
        (λ k none. step_gains action IsDefaultElement IsDefaultHeader family old (Command.Send n) reply new step k
        (λ e. let f : None ≡ Some k = e in cc) none) notes
    still_known (Command.Release n) reply step notes = forgotten n
        (λ k none. step_gains action IsDefaultElement IsDefaultHeader family old (Command.Release n) reply new step k
        (λ e. let f : None ≡ Some k = e in cc) none) notes
    still_known command reply step notes =
        remembered (given command reply) (step_gains action IsDefaultElement IsDefaultHeader family old command reply new step) notes

-- the place of a handle that is gone was forgotten
pub forgets_gone : {T H K : Type 0} (p q : Places) (new : State T H T H K) (n k : ℕ) → k ≡ n → Forgets p k q → handle_at new n ≡ None
    → ForgetsGone p n new q
forgets_gone p q new n k is forgets gone = inr (subst (λ j. Forgets p j q) is forgets, gone)

-- A run goes on by one step, or by a run.
use Rattle.std.proofs.Common.{ℕ, List, [], ◌∷◌, ◌++◌, refl, subst}
use Rattle.rr_slots.specs.declared.family.Family.{Family}
use Rattle.rr_protocol.specs.declared.settings.BackpressureAction.{BackpressureAction}
use Rattle.rr_protocol.specs.State.{State}
use Rattle.rr_protocol.specs.declared.command.Command.{Command}
use Rattle.rr_protocol.specs.declared.reply.Reply.{Reply}
use Rattle.rr_protocol.specs.Step.{Step}
use Rattle.rr_protocol.specs.Run.{Run}

module _ {T H K : Type 0} (action : K → ℕ → ℕ → BackpressureAction) (IsDefaultElement : T → Type 0) (IsDefaultHeader : H → Type 0) where
  pub run_then_step : (family : Family) (commands : List (Command T H K)) (replies : List (Reply T H)) (old mid new : State T H T H K)
      (command : Command T H K) (reply : Reply T H) →
      Run action IsDefaultElement IsDefaultHeader family old commands replies mid →
      Step action IsDefaultElement IsDefaultHeader family mid command reply new →
      Run action IsDefaultElement IsDefaultHeader family old (commands ++ command ∷ []) (replies ++ reply ∷ []) new
  run_then_step family [] [] old mid new command reply run step =
      (new, subst (λ s. Step action IsDefaultElement IsDefaultHeader family s command reply new) run step, refl)
  run_then_step family [] (r ∷ replies) old mid new command reply run step = absurd run
  run_then_step family (c ∷ commands) [] old mid new command reply run step = absurd run
  run_then_step family (c ∷ commands) (r ∷ replies) old mid new command reply run step =
      (run.0, run.1, run_then_step family commands replies run.0 mid new command reply run.2 step)

  -- and by a whole run
  pub run_then_run : (family : Family) (commands : List (Command T H K)) (replies : List (Reply T H)) (others : List (Command T H K))
      (other_replies : List (Reply T H)) (old mid new : State T H T H K) →
      Run action IsDefaultElement IsDefaultHeader family old commands replies mid →
      Run action IsDefaultElement IsDefaultHeader family mid others other_replies new →
      Run action IsDefaultElement IsDefaultHeader family old (commands ++ others) (replies ++ other_replies) new
  run_then_run family [] [] others other_replies old mid new run next =
      subst (λ s. Run action IsDefaultElement IsDefaultHeader family s others other_replies new) run next
  run_then_run family [] (r ∷ replies) others other_replies old mid new run next = absurd run
  run_then_run family (c ∷ commands) [] others other_replies old mid new run next = absurd run
  run_then_run family (c ∷ commands) (r ∷ replies) others other_replies old mid new run next =
      (run.0, run.1, run_then_run family commands replies others other_replies run.0 mid new run.2 next)

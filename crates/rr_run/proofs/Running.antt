-- How far a run has come.
use Rattle.std.proofs.Common.{◌≡◌, ◌<◌, ◌≤◌, ◌+◌, ℕ, List, [], ◌∷◌, ◌++◌, get_or, take, refl, sym, ap, ◌∙◌, length, subst}
use Rattle.std.proofs.lemmas.List.{append_assoc, append-nil, take_all, take_more}
use Rattle.rr_slots.specs.declared.family.Family.{Family}
use Rattle.rr_protocol.specs.declared.settings.BackpressureAction.{BackpressureAction}
use Rattle.rr_protocol.specs.State.{State}
use Rattle.rr_protocol.specs.declared.command.Command.{Command}
use Rattle.rr_protocol.specs.declared.reply.Reply.{Reply}
use Rattle.rr_protocol.specs.Run.{Run}
use Rattle.rr_protocol.specs.Step.{Step}
use Rattle.rr_protocol.proofs.RunLaws.{run_then_step}

module _ {T H K : Type 0} (action : K → ℕ → ℕ → BackpressureAction) (IsDefaultElement : T → Type 0) (IsDefaultHeader : H → Type 0)
    (family : Family) where
  -- so many commands were carried out
  pub record IsRunning (old new : State T H T H K) (commands : List (Command T H K)) (done : ℕ) (before after : List (Reply T H)) : Type 0 where
    pub given : List (Reply T H)
    pub replies_are : after ≡ before ++ given
    pub run : Run action IsDefaultElement IsDefaultHeader family old (take done commands) given new

  -- none was at first
  pub run_starts : (old : State T H T H K) (commands : List (Command T H K)) (before : List (Reply T H))
      → IsRunning old old commands 0 before before
  run_starts old commands before = record { given = []; replies_are = sym (append-nil before); run = refl }

  -- one more was
  pub run_goes_on : (old mid : State T H T H K) (commands : List (Command T H K)) (done : ℕ) (before after : List (Reply T H))
      → IsRunning old mid commands done before after
      → (command : Command T H K) → done < length commands → command ≡ get_or commands done command
      → (reply : Reply T H) (new : State T H T H K) → Step action IsDefaultElement IsDefaultHeader family mid command reply new
      → IsRunning old new commands (done + 1) before (after ++ reply ∷ [])
  run_goes_on old mid commands done before after r command there is reply new step = record {
    given = r.given ++ reply ∷ [];
    replies_are = ap (λ rs. rs ++ reply ∷ []) r.replies_are ∙ append_assoc before r.given (reply ∷ []);
    run = subst (λ cs. Run action IsDefaultElement IsDefaultHeader family old cs (r.given ++ reply ∷ []) new)
        (ap (λ c. take done commands ++ c ∷ []) is ∙ sym (take_more commands done command there))
        (run_then_step action IsDefaultElement IsDefaultHeader family (take done commands) r.given old mid new command reply r.run step);
  }

  -- at last all were
  pub run_ends : (old new : State T H T H K) (commands : List (Command T H K)) (done : ℕ) (before after : List (Reply T H))
      → IsRunning old new commands done before after → length commands ≤ done
      → (replies : List (Reply T H)) × (after ≡ before ++ replies)
      × Run action IsDefaultElement IsDefaultHeader family old commands replies new
  run_ends old new commands done before after r all = (
    r.given,
    r.replies_are,
    subst (λ cs. Run action IsDefaultElement IsDefaultHeader family old cs r.given new) (take_all done commands all) r.run,
  )

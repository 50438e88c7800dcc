-- Which steps calls take, by what a command's number names.
use Rattle.std.proofs.Common.{◌≡◌, ℕ, false, refl, sym, ap, ◌∙◌, subst, Some, None, MatchOption}
use Rattle.std.specs.Prelude.{◌==◌, option_and_then}
use Rattle.std.specs.Option.{option_map_or}
use Rattle.rr_slots.specs.declared.family.Family.{Family}
use Rattle.rr_protocol.specs.declared.settings.BackpressureAction.{BackpressureAction}
use Rattle.rr_protocol.specs.declared.kind.Kind.{Kind}
use Rattle.rr_protocol.specs.State.{State, numbers_left}
use Rattle.rr_protocol.specs.Queries.{kind_at}
use Rattle.rr_protocol.specs.Releases.{after_release}
use Rattle.rr_protocol.specs.declared.command.Command.{Command}
use Rattle.rr_protocol.specs.declared.reply.Reply.{Reply}
use Rattle.rr_protocol.specs.Refusals.{number_in, refusal, refusal_of_kind}
use Rattle.rr_protocol.specs.Step.{Acts, Step}

module _ {T H K : Type 0} (action : K → ℕ → ℕ → BackpressureAction) (IsDefaultElement : T → Type 0) (IsDefaultHeader : H → Type 0)
    (family : Family) where
  module _ (old : State T H T H K) (command : Command T H K) (n : ℕ) (k : Kind) (reply : Reply T H) (new : State T H T H K) where
    -- where nothing refuses it, a command acts
    pub step_acts : number_in command ≡ Some n → kind_at old n ≡ Some k → refusal_of_kind family old command k ≡ None →
        Acts action IsDefaultElement IsDefaultHeader family old command reply new
        → Step action IsDefaultElement IsDefaultHeader family old command reply new
    step_acts names is due acts =
        let none : refusal family old command ≡ None =
        ap (option_and_then (λ m. option_map_or (refusal_of_kind family old command) (kind_at old m) (Some Reply.Unknown))) names
        ∙ ap (λ o. option_map_or (refusal_of_kind family old command) o (Some Reply.Unknown)) is ∙ due in
        subst (λ o. MatchOption o (Acts action IsDefaultElement IsDefaultHeader family old command reply new)
        (λ refused. (reply ≡ refused) × (new ≡ old))) (sym none) acts

module _ {T H K : Type 0} (family : Family) (old : State T H T H K) (n : ℕ) (left : (numbers_left old == 0) ≡ false) where
  -- no command for one element is refused where a number is left
  pub request_copy_due : (v : T) → refusal_of_kind family old (Command.SendCopy n v) Kind.Client ≡ None
  request_copy_due v = rw left refl

  pub response_copy_due : (v : T) → refusal_of_kind family old (Command.SendCopy n v) Kind.ActiveRequest ≡ None
  response_copy_due v = rw left refl

  -- nor is a receive of a server
  pub receive_due : refusal_of_kind family old (Command.Receive n) Kind.Server ≡ None
  receive_due = rw left refl

module _ {T H K : Type 0} (family : Family) (old : State T H T H K) (n : ℕ) where
  -- no release is refused of what a number names
  pub release_due : (k : Kind) → refusal_of_kind family old (Command.Release n) k ≡ None
  release_due Kind.Client = refl
  release_due Kind.Server = refl
  release_due Kind.RequestMutUninit = refl
  release_due Kind.RequestMut = refl
  release_due Kind.PendingResponse = refl
  release_due Kind.ActiveRequest = refl
  release_due Kind.ResponseMutUninit = refl
  release_due Kind.ResponseMut = refl
  release_due Kind.Response = refl

  -- what a number names is released
  pub released : (action : K → ℕ → ℕ → BackpressureAction) (IsDefaultElement : T → Type 0) (IsDefaultHeader : H → Type 0) (m : ℕ) (k : Kind) (new : State T H T H K)
      → kind_at old n ≡ Some k → m ≡ n → new ≡ after_release old m
      → Step action IsDefaultElement IsDefaultHeader family old (Command.Release n) Reply.Done new
  released action IsDefaultElement IsDefaultHeader m k new is same goes =
      step_acts action IsDefaultElement IsDefaultHeader family old (Command.Release n) n k Reply.Done new refl is (release_due k) (goes ∙ ap (after_release old) same)

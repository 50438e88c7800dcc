-- A write, a creation of a client and a step that changes nothing settle with nothing new.
use Rattle.std.proofs.Common.{◌≡◌, ℕ, Bool, true, false, cond, List, Result, Ok, Err, refl, sym, subst, arith}
use Rattle.rr_protocol.specs.declared.settings.ClientSettings.{ClientSettings}
use Rattle.rr_protocol.specs.declared.error.ClientCreateError.{ClientCreateError}
use Rattle.rr_protocol.specs.Messages.{Content, Handle}
use Rattle.rr_protocol.specs.Writing.{with_request_content, with_response_content}
use Rattle.rr_protocol.specs.State.{State, with_changed}
use Rattle.rr_protocol.specs.Creation.{CreatesClient}
use Rattle.rr_protocol.specs.Step.{with_content, with_complete}
use Rattle.rr_laws.specs.Roles.{role_of}
use Rattle.rr_laws.specs.Settling.{IsNew, Settles}
use Rattle.rr_laws.proofs.RoleLaws.{roles-changed}
use Rattle.rr_laws.proofs.Changing.{content_role}
use Rattle.rr_laws.proofs.FollowingSteps.{complete_roles}
use Rattle.rr_laws.proofs.Settling.{settles_same}

module _ {Q QH P PH K : Type 0} where
  -- no entry goes on, nothing is new, and no server ends
  abbrev pub SettlesQuietly : State Q QH P PH K → State Q QH P PH K → Type 0
  SettlesQuietly old new = Settles (IsNew old) (λ n. ⊥) (λ server p before after. after ≡ before) old new

  -- what settles where nothing changed
  pub unsettled : {Begins : ℕ → ℕ → Type 0} {Ends : ℕ → Type 0} (old new : State Q QH P PH K) → new ≡ old
      → Settles Begins Ends (λ server p before after. after ≡ before) old new
  unsettled {Begins} {Ends} old new same = subst (λ (x : State Q QH P PH K). Settles Begins Ends
      (λ server p before after. after ≡ before) old x) (sym same) (settles_same old old (omega arith) refl refl refl refl)

  -- a change of a handle that keeps its role
  pub changed_settles : {Begins : ℕ → ℕ → Type 0} {Ends : ℕ → Type 0} (s new : State Q QH P PH K) (n : ℕ)
      (change : Handle Q QH P PH → Handle Q QH P PH)
      → ((h : Handle Q QH P PH) → role_of (change h) ≡ role_of h) → new ≡ with_changed s n change →
      Settles Begins Ends (λ server p before after. after ≡ before) s new
  changed_settles {Begins} {Ends} s new n change same is = subst (λ (x : State Q QH P PH K). Settles Begins Ends
      (λ server p before after. after ≡ before) s x) (sym is)
      (settles_same s (with_changed s n change) (omega arith) (roles-changed change same s.handles n) refl refl refl)

  -- a client is created, or not
  pub creates_client_settles : (s : State Q QH P PH K) (settings : ClientSettings K) (result : Result ℕ ClientCreateError)
      (new : State Q QH P PH K)
      → CreatesClient s settings result new → SettlesQuietly s new
  creates_client_settles s settings (Ok number) new made = subst (λ (x : State Q QH P PH K). SettlesQuietly s x) (sym made.2)
      (settles_same s _ (omega arith) refl refl refl refl)
  creates_client_settles s settings (Err error) new made = unsettled s new made.1

module _ {T H K : Type 0} where
  -- a message says something else
  pub content_settles : {Begins : ℕ → ℕ → Type 0} {Ends : ℕ → Type 0} (s : State T H T H K) (n : ℕ) (change : Content T H → Content T H)
      → Settles Begins Ends (λ server p before after. after ≡ before) s (with_content s n change)
  content_settles s n change = changed_settles s _ n (λ h. with_request_content change (with_response_content change h))
      (content_role change)
      refl

  -- all elements of a message are written
  pub complete_settles : {Begins : ℕ → ℕ → Type 0} {Ends : ℕ → Type 0} (s : State T H T H K) (n : ℕ) (elements : List T)
      → Settles Begins Ends (λ server p before after. after ≡ before) s (with_complete s n elements)
  complete_settles s n elements = settles_same s (with_complete s n elements) (omega arith) (complete_roles s n elements) refl refl refl

  -- an element is written, or not
  pub written_settles : (old new : State T H T H K) (n : ℕ) (b : Bool) (change : Content T H → Content T H)
      → new ≡ cond b (with_content old n change) old → SettlesQuietly old new
  written_settles old new n true change same = subst (λ (x : State T H T H K). SettlesQuietly old x) (sym same)
      (content_settles old n change)
  written_settles old new n false change same = unsettled old new same

-- A number on which nothing is claimed.
use Rattle.std.proofs.Common.{◌≡◌, ℕ, ◌==◌, Bool, true, false, if◌then◌else◌, List, ◌∷◌, Option, Some, None, refl}
use Rattle.std.proofs.lemmas.Bool.{eqb-false}
use Rattle.rr_claims.specs.Rosters.{put_at}
use Rattle.rr_claims.specs.Cards.{Holds}

module _ {S W : Type 0} (says : S → ℕ → W → Type 0) (state : S) (puts : List (ℕ × Option W)) where
  none : (o : Option W) → ((w : W) → o ≡ Some w → ⊥) → o ≡ None
  none None never = refl
  none (Some w) never = absurd (never w refl)

  freed : (b : Bool) (o : Option W) → (b ≡ false → o ≡ None) → (if b then None else o) ≡ None
  freed true o not = refl
  freed false o not = not refl

  -- where nothing of a number holds, nothing is claimed of it
  pub unclaimed : (n : ℕ) → Holds says state puts → ((w : W) → says state n w → ⊥) → put_at puts n ≡ None
  unclaimed n holds free = none (put_at puts n) (λ w is. free w (holds n w is))

  -- nor after another claim was given back
  pub unclaimed_after : (m n : ℕ) → Holds says state puts → ((n ≡ m → ⊥) → (w : W) → says state n w → ⊥)
      → put_at ((m, None) ∷ puts) n ≡ None
  unclaimed_after m n holds free = freed (n == m) (put_at puts n) (λ e. unclaimed n holds (free (eqb-false n m e)))

-- A keeper as contracts see it.
use Rattle.std.specs.Prelude.{◌≡◌, ℕ, List, ◌∷◌, Option, Some}
use base.Stored.{Coded, coded×, coded_ℕ, coded_via}
use Rattle.rr_claims.specs.Rosters.{put_at}
use Rattle.rr_claims.specs.declared.claim.Claim.{Claim}
use Rattle.rr_claims.specs.declared.roster.Roster.{Roster}

-- the keeper's identity, and the state
pub record Card (S : Type 0) : Type 0 where
  pub id : ℕ
  pub state : S

abbrev pub card : {S : Type 0} → ℕ → S → Card S
card id state = record { id = id; state = state }

abbrev pub card_coded : {S : Type 0} → Coded S → Coded (Card S)
card_coded c =
    coded_via (coded× coded_ℕ c) (λ k. (k.id, k.state)) (λ x y e i. record { id = (e i).0; state = (e i).1 })

module _ {S W : Type 0} (says : S → ℕ → W → Type 0) where
  -- the claim on each number holds of the state
  abbrev pub Holds : S → List (ℕ × Option W) → Type 0
  Holds state puts = (n : ℕ) (w : W) → put_at puts n ≡ Some w → says state n w

-- a claim of this keeper, on this number, as this
abbrev pub IsClaimOf : {W : Type 0} → ℕ → ℕ → W → Claim W → Type 0
IsClaimOf id number what c = (c.id ≡ id) × (c.number ≡ number) × (c.what ≡ what)

-- the roster after something was put at a number, or nothing
abbrev pub IsPut : {W : Type 0} → ℕ → Option W → Roster W → Roster W → Type 0
IsPut number what old new = (new.id ≡ old.id) × (new.puts ≡ (number, what) ∷ old.puts)

-- The claim on each number, and the owners of the parts of its ghost entry.
use Rattle.std.specs.Prelude.{ℕ, ◌==◌, if◌then◌else◌, List, [], ◌∷◌, Option, Some, None}
use Rattle.std.specs.Coded.{coded_option}
use base.Fraction.{full_share}
use base.Share.{quarter, three_quarters}
use base.Stored.{Gv, gnil, Coded, coded×, coded_ℕ, coded_list}
use base.Algebra.{Algebra}
use base.SetCodes.{coded}
use base.Algebras.{both, shares, agreed}
use base.Fml.{Share, Fml, fown}
use types.Keyed.{keyed}
use mathlib.Core.Option.{Option as Maybe, none, some}

-- the code of a ghost value is itself: an algebra names no type parameter
abbrev pub itself : Coded Gv
itself = record { code = λ g. g; inj = λ x y p. p }

-- a share of an entry, and its value, of which all its owners know
abbrev pub shared_entry : Algebra
shared_entry = both shares (agreed (coded itself))

module _ {W : Type 0} where
  -- the last value put at a number: its claim, or nothing
  abbrev pub put_at : List (ℕ × Option W) → ℕ → Option W
  put_at [] n = None
  put_at (p ∷ ps) n = if n == p.0 then p.1 else put_at ps n

abbrev pub puts_coded : {W : Type 0} → Coded W → Coded (List (ℕ × Option W))
puts_coded c = coded_list (coded× coded_ℕ (coded_option c))

module _ {W : Type 0} (code : W → Gv) where
  -- the roster's part of an entry: all of it, if nothing is claimed
  abbrev pub kept : Option W → Share × Gv
  kept None = (full_share, gnil)
  kept (Some w) = (quarter, code w)

  -- of each entry
  abbrev pub roster_row : List (ℕ × Option W) → ℕ → Maybe (Share × Gv)
  roster_row puts j = some (kept (put_at puts j))

  -- the ownership of a roster
  abbrev pub roster_owns : ℕ → List (ℕ × Option W) → Fml
  roster_owns id puts = fown (keyed shared_entry) id (roster_row puts)

-- a part of one entry, and of no other
abbrev pub claim_row : ℕ → Share × Gv → ℕ → Maybe (Share × Gv)
claim_row n a j = if j == n then some a else none

-- a share of the entry of a number that is claimed
abbrev pub claim_part : {W : Type 0} (code : W → Gv) → ℕ → ℕ → W → Share → Fml
claim_part code id n w q = fown (keyed shared_entry) id (claim_row n (q, code w))

-- the ownership of a claim: the part that the roster doesn't have
abbrev pub claim_owns : {W : Type 0} (code : W → Gv) → ℕ → ℕ → W → Fml
claim_owns code id n w = claim_part code id n w three_quarters

-- The ownership of a log's tokens.
use Rattle.std.specs.Prelude.{ℕ, ◌+◌, List, [], ◌∷◌, length, map}
use base.Stored.{Gv, Coded, coded×, coded_ℕ}
use base.Fraction.{full_share}
use base.Fml.{Fml, ftrue, fsep}
use base.Growing.{Order, numbers, prefixes, latest, at_least}

-- a ghost value is its own code
abbrev pub itself : Coded Gv
itself = record { code = λ g. g; inj = λ x y p. p }

-- logs, as lists of ghost values, so that their order names no type of entries
abbrev pub logs : Order (List Gv)
logs = prefixes itself

module _ {E : Type 0} where
  -- each caller has seen its entries, the first of which is at this place
  abbrev pub counted : ℕ → List (ℕ × E) → Fml
  counted place [] = ftrue
  counted place (x ∷ xs) = fsep (at_least numbers x.0 (place + 1)) (counted (place + 1) xs)

  module _ (code : Coded E) where
    -- the entries as ghost values
    abbrev pub kept : List (ℕ × E) → List Gv
    kept = map (coded× coded_ℕ code).code

    -- the log has had these entries
    abbrev pub reached : ℕ → List (ℕ × E) → Fml
    reached log_id [] = ftrue
    reached log_id (x ∷ xs) = at_least logs log_id (kept (x ∷ xs))

    -- the log has these entries, and nobody else appends any; the caller of each has seen it
    abbrev pub pen_owns : ℕ → List (ℕ × E) → Fml
    pen_owns log_id entries = fsep (latest logs full_share log_id (kept entries)) (counted 0 entries)

    -- the caller has seen this many entries, and nobody else sees any in its place; the log has had those that it has
    -- seen
    abbrev pub seen_owns : ℕ → ℕ → List (ℕ × E) → Fml
    seen_owns log_id caller entries =
        fsep (latest numbers full_share caller (length entries)) (reached log_id entries)

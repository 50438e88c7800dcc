-- What the tokens own names no thread's key.
use Rattle.std.proofs.Common.{ℕ, ◌+◌, List, [], ◌∷◌}
use base.Stored.{Coded}
use base.Growing.{latest, at_least}
use base.Shift.{Keyless}
use Rattle.rr_log.specs.Owned.{counted, reached, pen_owns, seen_owns}

module _ {E : Type 0} where
  counted_keyless : (place : ℕ) (entries : List (ℕ × E)) → Keyless (counted place entries)
  unfolding at_least
  counted_keyless place [] = tt
  counted_keyless place (x ∷ xs) = (tt, counted_keyless (place + 1) xs)

  module _ (code : Coded E) where
    reached_keyless : (log_id : ℕ) (entries : List (ℕ × E)) → Keyless (reached code log_id entries)
    unfolding at_least
    reached_keyless log_id [] = tt
    reached_keyless log_id (x ∷ xs) = tt

    pub pen_keyless : (log_id : ℕ) (entries : List (ℕ × E)) → Keyless (pen_owns code log_id entries)
    unfolding latest
    pen_keyless log_id entries = (tt, counted_keyless 0 entries)

    pub seen_keyless : (log_id caller : ℕ) (entries : List (ℕ × E)) → Keyless (seen_owns code log_id caller entries)
    unfolding latest
    seen_keyless log_id caller entries = (tt, reached_keyless log_id entries)

-- A pen and a caller as contracts see them.
use Rattle.std.specs.Prelude.{◌≡◌, ℕ, ◌==◌, if◌then◌else◌, List, [], ◌∷◌, ◌++◌}
use Rattle.rr_log.specs.declared.pen.Pen.{Pen}
use Rattle.rr_log.specs.declared.seen.Seen.{Seen}

module _ {E : Type 0} where
  -- the log's identity, and all its entries, each with its caller
  abbrev pub whole : ℕ → List (ℕ × E) → Pen E
  whole log_id entries = record { marker = record {}; log_id = log_id; entries = entries }

  -- the log's identity, the caller, and the entries that this caller has seen, a prefix of the log
  abbrev pub beginning : ℕ → ℕ → List (ℕ × E) → Seen E
  beginning log_id caller entries = record { marker = record {}; log_id = log_id; caller = caller; entries = entries }

  -- the entries of one caller, in order
  abbrev pub entries_of : ℕ → List (ℕ × E) → List E
  entries_of caller [] = []
  entries_of caller (x ∷ xs) = if x.0 == caller then x.1 ∷ entries_of caller xs else entries_of caller xs

  -- the entries are those that were seen, followed by entries of others
  abbrev pub Follows : ℕ → List (ℕ × E) → List (ℕ × E) → Type 0
  Follows caller seen entries = (others : List (ℕ × E)) × (entries ≡ seen ++ others) × (entries_of caller others ≡ [])

-- Tables as contracts see them.
use Rattle.std.specs.Prelude.{◌≡◌, ◌≢◌, ℕ, ◌<◌, ◌==◌, ◌&&◌, if◌then◌else◌, Option, Some, None, List, [], ◌∷◌, ◌++◌, length, slice_index_or, slice_set, option_map, option_and_then, refl}
use Rattle.std.specs.Coded.{Coded, code_by, coded×, coded_ℕ, coded_list}
use Rattle.std.specs.Ordering.{nat_cmp}
use Rattle.std.specs.FinMap as map
use Rattle.rr_table.specs.declared.place.Place.{Place}

-- a value and its place
pub record TableEntry (E : Type 0) : Type 0 where
  pub place : Place
  pub value : E

-- the value of each number, and the number of places in each row
pub record TableView (E : Type 0) : Type 0 where
  pub entries : map.FinMap nat_cmp (TableEntry E)
  pub rows : List ℕ

-- a place as a pair of numbers
abbrev pub place_code : Coded Place
place_code =
    code_by (ℕ × ℕ) (coded× coded_ℕ coded_ℕ) (λ p. (p.row, p.index)) (λ p. record { row = p.0; index = p.1 })
    (λ _. refl)

-- an entry as a pair
abbrev pub table_entry_code : {E : Type 0} → Coded E → Coded (TableEntry E)
table_entry_code {E} e =
    code_by (Place × E) (coded× place_code e) (λ s. (s.place, s.value)) (λ p. record { place = p.0; value = p.1 })
    (λ _. refl)

-- a table as a pair
abbrev pub table_code : {E : Type 0} → Coded E → Coded (TableView E)
table_code {E} e =
    code_by (map.FinMap nat_cmp (TableEntry E) × List ℕ)
    (coded× (map.code coded_ℕ (table_entry_code e)) (coded_list coded_ℕ))
    (λ t. (t.entries, t.rows)) (λ p. record { entries = p.0; rows = p.1 }) (λ _. refl)

module _ {E : Type 0} where
  -- a value in its place
  abbrev pub table_entry : Place → E → TableEntry E
  table_entry p v = record { place = p; value = v }

  -- the table with no rows
  abbrev pub empty_table : TableView E
  empty_table = record { entries = map.empty; rows = [] }

  -- the value under a number
  abbrev pub value_at : TableView E → ℕ → Option E
  value_at t n = option_map (λ s. s.value) (map.get t.entries n)

  -- the value of an entry, if the entry is in this place
  abbrev pub kept_in : Place → TableEntry E → Option E
  kept_in p s = if s.place.row == p.row && s.place.index == p.index then Some s.value else None

  -- the value under a number, if the number is in this place
  abbrev pub value_in : TableView E → ℕ → Place → Option E
  value_in t n p = option_and_then (kept_in p) (map.get t.entries n)

  -- with a value under a number, in a place
  abbrev pub inserted : TableView E → ℕ → Place → E → TableView E
  inserted t n p v = record t { entries = map.insert t.entries n (table_entry p v) }

  -- with nothing under a number
  abbrev pub removed : TableView E → ℕ → TableView E
  removed t n = record t { entries = map.remove t.entries n }

  -- the number is in this place
  abbrev pub IsAt : TableView E → ℕ → Place → Type 0
  IsAt t n p = (v : E) × (map.get t.entries n ≡ Some (table_entry p v))

  -- the place is one of the table's
  abbrev pub IsInside : TableView E → Place → Type 0
  IsInside t p = (p.row < length t.rows) × (p.index < slice_index_or t.rows p.row 0)

  -- no number has the place
  abbrev pub IsVacant : TableView E → Place → Type 0
  IsVacant t p = (k : ℕ) (s : TableEntry E) → map.get t.entries k ≡ Some s → s.place ≢ p

  -- with one more row of this many vacant places
  abbrev pub with_row : TableView E → ℕ → TableView E
  with_row t n = record t { rows = t.rows ++ n ∷ [] }

  -- an entry that is not in the row
  abbrev pub outside : ℕ → Option (TableEntry E) → Option (TableEntry E)
  outside r None = None
  outside r (Some s) = if s.place.row == r then None else Some s

  -- the row has this many vacant places, its numbers were removed, and the other entries are unchanged
  abbrev pub IsRenewed : ℕ → ℕ → TableView E → TableView E → Type 0
  IsRenewed r n old new =
      (new.rows ≡ slice_set old.rows r n) × ((k : ℕ) → map.get new.entries k ≡ outside r (map.get old.entries k))

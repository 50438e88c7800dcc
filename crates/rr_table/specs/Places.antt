-- The table that rows of places represent.
use Rattle.std.specs.Prelude.{◌≡◌, ◌≢◌, ℕ, ◌+◌, ◌==◌, if◌then◌else◌, Option, None, Some, List, [], ◌∷◌, ◌++◌, map, length, slice_index_or, Vec}
use Rattle.std.specs.Global.{Global}
use Rattle.std.specs.FinMap as map
use Rattle.rr_table.specs.TableView.{TableEntry, table_entry, TableView}
use Rattle.rr_table.specs.declared.place.Place.{Place}
use Rattle.rr_table.specs.declared.table.Entry.{Entry}
use Rattle.rr_table.specs.declared.table.Row.{Row}

-- the place of a row and an index
abbrev pub place : ℕ → ℕ → Place
place r i = record { row = r; index = i }

-- the number that an entry of a vacant place has
abbrev pub vacant_number : ℕ
vacant_number = 18446744073709551615

module _ {E : Type 0} where
  -- a value under a number
  abbrev pub entry : ℕ → E → Entry E
  entry n v = record { number = n; value = v }

  -- an entry as the content of its place, or None if the place is vacant
  abbrev pub occupied : Entry E → Option (Entry E)
  occupied e = if e.number == vacant_number then None else Some e

  -- the places of a row
  abbrev pub places_of : Row E → List (Option (Entry E))
  places_of row = map occupied row.places.items

  -- the rows of a vector
  abbrev pub rows_of : Vec (Row E) Global → List (List (Option (Entry E)))
  rows_of rows = map places_of rows.items

  -- the entries in row r, from place i on
  abbrev pub in_row : ℕ → ℕ → List (Option (Entry E)) → List (ℕ × TableEntry E)
  in_row r i [] = []
  in_row r i (None ∷ xs) = in_row r (i + 1) xs
  in_row r i (Some e ∷ xs) = (e.number, table_entry (place r i) e.value) ∷ in_row r (i + 1) xs

  -- the entries in the rows, the first of which is row r
  abbrev pub in_rows : ℕ → List (List (Option (Entry E))) → List (ℕ × TableEntry E)
  in_rows r [] = []
  in_rows r (row ∷ rows) = in_row r 0 row ++ in_rows (r + 1) rows

  -- the table that the rows represent
  abbrev pub table_of : List (List (Option (Entry E))) → TableView E
  table_of rows = record { entries = map.from_entries (in_rows 0 rows); rows = map length rows }

  -- the entry in a place, or None where the place is vacant or outside the rows
  abbrev pub standing : List (List (Option (Entry E))) → Place → Option (Entry E)
  standing rows p = slice_index_or (slice_index_or rows p.row []) p.index None

  -- an entry, if it has this number
  abbrev pub of_number : ℕ → Option (Entry E) → Option (Entry E)
  of_number n None = None
  of_number n (Some e) = if e.number == n then Some e else None

  -- no number is in two places
  abbrev pub IsDistinct : List (List (Option (Entry E))) → Type 0
  IsDistinct rows =
      (p q : Place) (a b : Entry E) → standing rows p ≡ Some a → standing rows q ≡ Some b → a.number ≡ b.number
      → p ≡ q

  -- the index of the number in the row, or None if the row doesn't have it
  abbrev pub IsIndexOf : List (Option (Entry E)) → ℕ → Option ℕ → Type 0
  IsIndexOf row n None = (i : ℕ) (e : Entry E) → slice_index_or row i None ≡ Some e → e.number ≢ n
  IsIndexOf row n (Some i) = (e : Entry E) × (slice_index_or row i None ≡ Some e) × (e.number ≡ n)

  -- the place of the number, or None if no row has it
  abbrev pub IsPlaceOf : List (List (Option (Entry E))) → ℕ → Option Place → Type 0
  IsPlaceOf rows n None = (p : Place) (e : Entry E) → standing rows p ≡ Some e → e.number ≢ n
  IsPlaceOf rows n (Some p) = (e : Entry E) × (standing rows p ≡ Some e) × (e.number ≡ n)

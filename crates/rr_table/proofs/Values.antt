-- A write of the value alone, where a number stands.
use Rattle.std.proofs.Common.{◌≡◌, ℕ, Some, List, map, sym, ap, ◌∙◌, get_or}
use Rattle.std.specs.Prelude.{slice_set}
use Rattle.std.specs.Vec.{with_item}
use Rattle.rr_table.specs.TableView.{IsAt}
use Rattle.rr_table.specs.Places.{entry, places_of, table_of, IsDistinct}
use Rattle.rr_table.specs.declared.place.Place.{Place}
use Rattle.rr_table.specs.declared.table.Entry.{Entry}
use Rattle.rr_table.specs.declared.table.Row.{Row}
use Rattle.rr_table.proofs.Entries.{occupied_some, standing_number}
use Rattle.rr_table.proofs.Here.{entry_here, within_here}
use Rattle.rr_table.proofs.Standing.{written}
use Rattle.rr_table.proofs.Vectors.{within_vectors, index_within, standing_read, occupied_at}

module _ {E : Type 0} (vs : List (Row E)) (n : ℕ) (p : Place) (distinct : IsDistinct (map places_of vs))
    (there : IsAt (table_of (map places_of vs)) n p) (v : Row E) (x : Entry E) (is : v ≡ get_or vs p.row v)
    (read : x ≡ get_or v.places.items p.index x) where
  -- the entry that is read there has the number
  number_read : x.number ≡ n
  number_read = let within = within_here (map places_of vs) n p distinct there in
      ap (λ e. e.number) (occupied_some x (entry n there.0)
      (sym (standing_read vs p v x (within_vectors vs p within) (index_within vs p v within is) is read)
      ∙ entry_here (map places_of vs) n p there)).0

  -- so with another value it is an entry of the number
  pub value_written : (value : E)
      → map places_of (slice_set vs p.row (record v { places = with_item v.places p.index (entry x.number value) })) ≡ written (map places_of vs) p (Some (entry n value))
  value_written value =
      ap (λ k. map places_of (slice_set vs p.row (record v { places = with_item v.places p.index (entry k value) }))) number_read
      ∙ occupied_at vs p v (entry n value) (standing_number vs p.row p.index (entry n there.0) (entry_here (map places_of vs) n p there))
      (within_here (map places_of vs) n p distinct there) is

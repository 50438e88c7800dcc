-- Vectors of vectors as rows of places.
use Rattle.std.proofs.Common.{◌≡◌, ℕ, ◌<◌, Option, Some, None, List, [], ◌∷◌, ◌++◌, length, map, replicate, sym, ap, ◌∙◌, arith, get_or}
use Rattle.std.specs.Prelude.{slice_set, ◌≢◌}
use Rattle.std.specs.Vec.{with_item}
use Rattle.std.proofs.lemmas.List.{get_or-map, length-map, map-append, map-set}
use Rattle.rr_table.proofs.Standing.{written, IsWithin}
use Rattle.rr_table.specs.TableView.{IsInside}
use Rattle.rr_table.proofs.Entries.{occupied_is, occupied-replicate}
use Rattle.rr_table.specs.Places.{entry, vacant_number, occupied, places_of, table_of, standing}
use Rattle.rr_table.specs.declared.place.Place.{Place}
use Rattle.rr_table.specs.declared.table.Entry.{Entry}
use Rattle.rr_table.specs.declared.table.Row.{Row}

module _ {E : Type 0} where
  pub within_inside : (rows : List (List (Option (Entry E)))) (p : Place) → IsInside (table_of rows) p → IsWithin rows p
  within_inside rows p h =
      let row : p.row < length rows = omega (arith, h.0, length-map rows length) in
      (row, omega (arith, h.1, get_or-map length rows p.row [] 0 row))

  pub row_inside : (rows : List (List (Option (Entry E)))) (r : ℕ) → r < length (table_of rows).rows → r < length rows
  row_inside rows r h = omega (arith, h, length-map rows length)

  module _ (vs : List (Row E)) where
    pub row_at : (r : ℕ) (v : Row E) → r < length vs → v ≡ get_or vs r v → get_or (map places_of vs) r [] ≡ places_of v
    row_at r v inside is = get_or-map places_of vs r v [] inside ∙ ap places_of (sym is)

    pub within_vectors : (p : Place) → IsWithin (map places_of vs) p → p.row < length vs
    within_vectors p w = omega (arith, w.0, length-map vs places_of)

    -- a place of the rows is one of the vector's
    pub index_within : (p : Place) (v : Row E) → IsWithin (map places_of vs) p → v ≡ get_or vs p.row v → p.index < v.places.len
    index_within p v w is =
        omega (arith, w.1, ap length (row_at p.row v (within_vectors p w) is), length-map v.places.items occupied, v.places.ok.0)

    -- a read of one
    pub standing_read : (p : Place) (v : Row E) (x : Entry E) → p.row < length vs → p.index < v.places.len
        → v ≡ get_or vs p.row v → x ≡ get_or v.places.items p.index x → standing (map places_of vs) p ≡ occupied x
    standing_read p v x row index is read =
        ap (λ l. get_or l p.index None) (row_at p.row v row is) ∙ get_or-map occupied v.places.items p.index x None (omega (arith, index, v.places.ok.0))
        ∙ ap occupied (sym read)

    -- a write to an element of an element
    pub written_at : (p : Place) (v : Row E) (x : Entry E) → IsWithin (map places_of vs) p → v ≡ get_or vs p.row v
        → map places_of (slice_set vs p.row (record v { places = with_item v.places p.index x })) ≡ written (map places_of vs) p (occupied x)
    written_at p v x w is =
        map-set places_of vs p.row (record v { places = with_item v.places p.index x })
        ∙ ap (slice_set (map places_of vs) p.row) (map-set occupied v.places.items p.index x)
        ∙ ap (λ l. slice_set (map places_of vs) p.row (slice_set l p.index (occupied x)))
        (sym (row_at p.row v (within_vectors p w) is))

    -- a write of an entry with a number that is not the vacant one
    pub occupied_at : (p : Place) (v : Row E) (x : Entry E) → x.number ≢ vacant_number → IsWithin (map places_of vs) p
        → v ≡ get_or vs p.row v
        → map places_of (slice_set vs p.row (record v { places = with_item v.places p.index x })) ≡ written (map places_of vs) p (Some x)
    occupied_at p v x n w is = written_at p v x w is ∙ ap (written (map places_of vs) p) (occupied_is x n)

    -- a last vector
    pub pushed_at : (ws : List (Row E)) (v : Row E) (n : ℕ) (f : E) → ws ≡ vs ++ v ∷ []
        → v.places.items ≡ replicate n (entry vacant_number f) → map places_of ws ≡ map places_of vs ++ replicate n None ∷ []
    pushed_at ws v n f is vacant =
        ap (map places_of) is ∙ map-append places_of vs (v ∷ [])
        ∙ ap (λ l. map places_of vs ++ l ∷ []) (ap (map occupied) vacant ∙ occupied-replicate n f)

    -- another vector in the place of one
    pub renewed_at : (r : ℕ) (v : Row E) (n : ℕ) (f : E) → v.places.items ≡ replicate n (entry vacant_number f)
        → map places_of (slice_set vs r v) ≡ slice_set (map places_of vs) r (replicate n None)
    renewed_at r v n f vacant =
        map-set places_of vs r v ∙ ap (slice_set (map places_of vs) r) (ap (map occupied) vacant ∙ occupied-replicate n f)

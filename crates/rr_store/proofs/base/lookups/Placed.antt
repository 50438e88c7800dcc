-- The handle that a place has.
use Rattle.std.proofs.Common.{◌≡◌, ℕ, Bool, true, false, Option, None, Some, refl, ap, ◌∙◌}
use Rattle.std.specs.Prelude.{◌==◌, ◌&&◌, if◌then◌else◌, option_and_then, option_map}
use Rattle.std.specs.FinMap as fin_map
use Rattle.std.proofs.lemmas.Bool.{eqb-true}
use Rattle.rr_table.specs.TableView.{TableEntry, TableView, kept_in, table_entry, value_at, value_in, IsAt}
use Rattle.rr_table.specs.declared.place.Place.{Place}

module _ {E : Type 0} (t : TableView E) (n : ℕ) where
  -- where a number was found, it stands
  pub found_at : (place : Place) → option_map (λ (s : TableEntry E). s.place) (fin_map.get t.entries n) ≡ Some place → IsAt t n place
  found_at place h = go (fin_map.get t.entries n) refl h
    where
      go : (o : Option (TableEntry E)) → fin_map.get t.entries n ≡ o → option_map (λ s. s.place) o ≡ Some place → IsAt t n place
      go None at e = absurd (let f : None ≡ Some place = e in cc)
      go (Some s) at e = let is : s.place ≡ place = cc in (s.value, at ∙ ap (λ p. Some (table_entry p s.value)) is)

  -- where it was not, nothing is under it
  pub found_none : option_map (λ (s : TableEntry E). s.place) (fin_map.get t.entries n) ≡ None → value_at t n ≡ None
  found_none h = go (fin_map.get t.entries n) h
    where
      go : (o : Option (TableEntry E)) → option_map (λ s. s.place) o ≡ None → option_map (λ (s : TableEntry E). s.value) o ≡ None
      go None e = refl
      go (Some s) e = absurd (let f : Some s.place ≡ None = e in cc)

  -- what stands in a place stands there
  pub kept_there : (place : Place) (value : E) → value_in t n place ≡ Some value → fin_map.get t.entries n ≡ Some (table_entry place value)
  kept_there place value h = go (fin_map.get t.entries n) refl h
    where
      by : (s : TableEntry E) (a b : Bool) → (s.place.row == place.row) ≡ a → (s.place.index == place.index) ≡ b
          → (if a && b then Some s.value else None) ≡ Some value → s ≡ table_entry place value
      by s true true row index e =
          ap (λ r. table_entry (record { row = r; index = s.place.index }) s.value) (eqb-true s.place.row place.row row)
          ∙ ap (λ i. table_entry (record { row = place.row; index = i }) s.value) (eqb-true s.place.index place.index index)
          ∙ ap (table_entry place) (let same : s.value ≡ value = cc in same)
      by s true false row index e = absurd (let f : None ≡ Some value = e in cc)
      by s false b row index e = absurd (let f : None ≡ Some value = e in cc)

      go : (o : Option (TableEntry E)) → fin_map.get t.entries n ≡ o → option_and_then (kept_in place) o ≡ Some value
          → fin_map.get t.entries n ≡ Some (table_entry place value)
      go None at e = absurd (let f : None ≡ Some value = e in cc)
      go (Some s) at e = at ∙ ap Some (by s (s.place.row == place.row) (s.place.index == place.index) refl refl e)

  -- its value is under it
  pub value_there : (place : Place) (value : E) → fin_map.get t.entries n ≡ Some (table_entry place value) → value_at t n ≡ Some value
  value_there place value at = ap (option_map (λ (s : TableEntry E). s.value)) at

-- A number that is known to stand in a place.
use Rattle.std.proofs.Common.{◌≡◌, ◌≢◌, ℕ, Bool, true, false, cond, eqb, Option, Some, None, List, refl, sym, ap, ◌∙◌}
use Rattle.std.specs.Prelude.{is_some, option_map}
use Rattle.std.specs.FinMap.{get}
use Rattle.rr_table.specs.TableView.{TableEntry, table_entry, inserted, IsAt, IsVacant}
use Rattle.std.proofs.lemmas.Bool.{eq-eqb, eqb-true}
use Rattle.rr_table.specs.Places.{entry, of_number, table_of, standing, IsDistinct, IsPlaceOf}
use Rattle.rr_table.specs.declared.place.Place.{Place}
use Rattle.rr_table.specs.declared.table.Entry.{Entry}
use Rattle.rr_table.proofs.Standing.{stands_at, table_entry_of, written, IsWithin, placed_within, others_apart, its_table_entry, inserted_is, nowhere, standing-written_same}

module _ {E : Type 0} (rows : List (List (Option (Entry E)))) (n : ℕ) (p : Place) where
  -- an entry with its number stands in the place
  pub entry_here : (h : IsAt (table_of rows) n p) → standing rows p ≡ Some (entry n h.0)
  entry_here h = stands_at rows n (table_entry p h.0) h.1

  pub place_here : IsAt (table_of rows) n p → IsPlaceOf rows n (Some p)
  place_here h = (entry n h.0, entry_here h, refl)

  -- and the other way round
  pub here : IsDistinct rows → (e : Entry E) → standing rows p ≡ Some e → e.number ≡ n → get (table_of rows).entries n ≡ Some
      (table_entry p e.value)
  here d e at is = ap (get (table_of rows).entries) (sym is) ∙ table_entry_of rows p e d at

  pub number_here : IsAt (table_of rows) n p → (e : Entry E) → standing rows p ≡ Some e → e.number ≡ n
  number_here h e at = let g : Some (entry n h.0) ≡ Some e = sym (entry_here h) ∙ at in
      let same : entry n h.0 ≡ e = cc in ap (λ x. x.number) (sym same)

  pub value_here : IsDistinct rows → IsAt (table_of rows) n p → (e : Entry E) → standing rows p ≡ Some e
      → get (table_of rows).entries n ≡ Some (table_entry p e.value)
  value_here d h e at = here d e at (number_here h e at)

  pub none_here : IsAt (table_of rows) n p → standing rows p ≡ None → ⊥
  none_here h at = let g : Some (entry n h.0) ≡ None = sym (entry_here h) ∙ at in cc

  pub within_here : IsDistinct rows → IsAt (table_of rows) n p → IsWithin rows p
  within_here d h = placed_within rows n p d (place_here h)

  pub set_here : (d : IsDistinct rows) → IsAt (table_of rows) n p → (v : E) → table_of (written rows p (Some (entry n v))) ≡ inserted
      (table_of rows) n p v
  set_here d h v = let at = place_here h in inserted_is rows p n v (placed_within rows n p d at) d (others_apart rows n p d at)
      (its_table_entry rows n p d at)

  pub vacated_here : (d : IsDistinct rows) → IsAt (table_of rows) n p → IsVacant (table_of (written rows p None)) p
  vacated_here d h k s f e =
      let none : None ≡ Some (entry k s.value) = sym (standing-written_same rows p None (placed_within rows n p d (place_here h)) s.place e)
      ∙ stands_at (written rows p None) k s f in cc

-- a number that stands somewhere stands in a place
pub somewhere : {E : Type 0} (rows : List (List (Option (Entry E)))) (n : ℕ) → get (table_of rows).entries n ≢ None
    → (s : TableEntry E) × (standing rows s.place ≡ Some (entry n s.value))
somewhere {E} rows n some = go (get (table_of rows).entries n) refl
  where
    go : (o : Option (TableEntry E)) → get (table_of rows).entries n ≡ o → (s : TableEntry E) × (standing rows s.place ≡ Some (entry n s.value))
    go None e = absurd (some e)
    go (Some s) e = (s, stands_at rows n s e)

-- an entry of a number has that number, and stands there
pub of_number_some : {E : Type 0} (n : ℕ) (o : Option (Entry E)) (e : Entry E) → of_number n o ≡ Some e → (o ≡ Some e) × (e.number ≡ n)
of_number_some n None e h = absurd (let g : None ≡ Some e = h in cc)
of_number_some {E} n (Some x) e h = go (eqb x.number n) refl h
  where
    go : (b : Bool) → eqb x.number n ≡ b → cond b (Some x) None ≡ Some e → (Some x ≡ Some e) × (e.number ≡ n)
    go true same h =
        let one : x ≡ e = (let g : Some x ≡ Some e = h in cc) in (h, ap (λ (y : Entry E). y.number) (sym one) ∙ eqb-true x.number n same)
    go false same h = absurd (let g : None ≡ Some e = h in cc)

pub some_there : {E : Type 0} (n : ℕ) (o : Option (Entry E)) → is_some (of_number n o) ≡ true → (e : Entry E) × (o ≡ Some e) × (e.number ≡ n)
some_there {E} n o h = go (of_number n o) refl h
  where
    go : (r : Option (Entry E)) → of_number n o ≡ r → is_some r ≡ true → (e : Entry E) × (o ≡ Some e) × (e.number ≡ n)
    go None is t = absurd (cc)
    go (Some e) is t = let found = of_number_some n o e is in (e, found.0, found.1)

-- and is found where the number stands
pub found_there : {E : Type 0} (rows : List (List (Option (Entry E)))) (n : ℕ) (p : Place) → IsAt (table_of rows) n p
    → is_some (of_number n (standing rows p)) ≡ true
found_there rows n p h =
    ap (λ o. is_some (of_number n o)) (entry_here rows n p h)
    ∙ ap (λ b. is_some (cond b (Some (entry n h.0)) None)) (eq-eqb n n refl)

-- where there is none, no entry has it
pub of_number_none : {E : Type 0} (n : ℕ) (o : Option (Entry E)) → of_number n o ≡ None → (e : Entry E) → o ≡ Some e → e.number ≢ n
of_number_none n o h e at same =
    absurd (let g : None ≡ Some e = sym h ∙ ap (of_number n) at ∙ ap (λ b. cond b (Some e) None) (eq-eqb e.number n same) in cc)

-- where a number stands
pub place_found : {E : Type 0} (rows : List (List (Option (Entry E)))) (n : ℕ) (o : Option Place) → IsDistinct rows → IsPlaceOf rows n o
    → o ≡ option_map (λ s. s.place) (get (table_of rows).entries n)
place_found rows n None d h = sym (ap (option_map (λ s. s.place)) (nowhere rows n h))
place_found rows n (Some p) d h = sym (ap (option_map (λ s. s.place)) (here rows n p d h.0 h.1 h.2))

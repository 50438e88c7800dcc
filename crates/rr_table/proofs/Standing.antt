-- Rows of places and the table that they stand for.
use Rattle.std.proofs.Common.{◌≡◌, ℕ, suc, zero, ◌+◌, ◌<◌, Option, Some, None, List, [], ◌∷◌, ◌++◌, true, false, cond, length, map, refl, sym, ap, ◌∙◌, subst, ⊎_elim, inl, inr, arith, get_or}
use Rattle.std.specs.Prelude.{slice_set, ◌≢◌, ◌⊎◌, option_map, IfSome}
use Rattle.std.specs.Ordering.{nat_cmp, eq_by_cmp}
use Rattle.std.specs.Cmp.{nat_cmp_total}
use Rattle.std.specs.FinMap.{FinMap, get, insert, remove, find, same_map, nat_cmp-IsAntisymmetric, get-from_entries}
use Rattle.std.proofs.lemmas.Bool.{cases_eq, cases_lt}
use Rattle.std.proofs.lemmas.List.{length-set, get_or-set_same, get_or-set_other, get_or_past}
use Rattle.std.proofs.Math.Seq.{map-set_same}
use Rattle.rr_table.proofs.MapLaws.{tied_same, tied_other, get-insert_same, get-insert_other, get-remove_same, get-remove_other}
use Rattle.rr_table.specs.TableView.{TableEntry, table_entry, inserted, removed, value_at, IsVacant}
use Rattle.rr_table.specs.Places.{place, entry, in_row, in_rows, table_of, standing, IsDistinct, IsPlaceOf}
use Rattle.rr_table.specs.declared.place.Place.{Place}
use Rattle.rr_table.specs.declared.table.Entry.{Entry}

-- two answers are one where each says what the other says
pub option_same : {X : Type 0} (a b : Option X) → ((x : X) → a ≡ Some x → b ≡ Some x) → ((x : X) → b ≡ Some x → a ≡ Some x) → a ≡ b
option_same None None f g = refl
option_same None (Some y) f g = g y refl
option_same (Some x) b f g = sym (f x refl)

pub none_or_some : {X : Type 0} (a : Option X) → (a ≡ None) ⊎ ((x : X) × (a ≡ Some x))
none_or_some None = inl refl
none_or_some (Some x) = inr (x, refl)

-- one place or two
pub place_cases : (p q : Place) → (p ≡ q) ⊎ (p ≢ q)
place_cases p q = ⊎_elim
    (λ r. ⊎_elim
    (λ i. inl (λ t. place (r t) (i t)))
    (λ n. inr (λ e. n (ap (λ z. z.index) e)))
    (cases_eq p.index q.index))
    (λ n. inr (λ e. n (ap (λ z. z.row) e)))
    (cases_eq p.row q.row)

module _ {E : Type 0} where
  find_here : (q n : ℕ) (s : TableEntry E) (es : List (ℕ × TableEntry E)) → q ≡ n → find nat_cmp q ((n, s) ∷ es) ≡ Some s
  find_here q n s es e = ap (λ b. cond b (Some s) (find nat_cmp q es)) (tied_same q n e)

  find_there : (q n : ℕ) (s : TableEntry E) (es : List (ℕ × TableEntry E)) → q ≢ n → find nat_cmp q ((n, s) ∷ es) ≡ find nat_cmp q es
  find_there q n s es e = ap (λ b. cond b (Some s) (find nat_cmp q es)) (tied_other q n e)

  find-left : (q : ℕ) (xs ys : List (ℕ × TableEntry E)) (s : TableEntry E) → find nat_cmp q xs ≡ Some s → find nat_cmp q (xs ++ ys) ≡ Some s
  find-left q [] ys s h = absurd (let g : None ≡ Some s = h in cc)
  find-left q (x ∷ xs) ys s h = elim (eq_by_cmp nat_cmp q x.0)
      as (λ b. cond b (Some x.1) (find nat_cmp q xs) ≡ Some s → cond b (Some x.1) (find nat_cmp q (xs ++ ys)) ≡ Some s) [
        | true ↦ λ k. k
        | false ↦ λ k. find-left q xs ys s k
      ] h

  find-right : (q : ℕ) (xs ys : List (ℕ × TableEntry E)) → find nat_cmp q xs ≡ None → find nat_cmp q (xs ++ ys) ≡ find nat_cmp q ys
  find-right q [] ys h = refl
  find-right q (x ∷ xs) ys h = elim (eq_by_cmp nat_cmp q x.0)
      as (λ b. cond b (Some x.1) (find nat_cmp q xs) ≡ None → cond b (Some x.1) (find nat_cmp q (xs ++ ys)) ≡ find nat_cmp q ys) [
        | true ↦ λ k. absurd (let g : None ≡ Some x.1 = sym k in cc)
        | false ↦ λ k. find-right q xs ys k
      ] h

  -- no number stands twice in a row
  abbrev IsDistinctRow : List (Option (Entry E)) → Type 0
  IsDistinctRow xs = (i j : ℕ) (a b : Entry E) → get_or xs i None ≡ Some a → get_or xs j None ≡ Some b → a.number ≡ b.number → i ≡ j

  tail_distinct : (x : Option (Entry E)) (xs : List (Option (Entry E))) → IsDistinctRow (x ∷ xs) → IsDistinctRow xs
  tail_distinct x xs d i j a b h k e = omega (arith, d (suc i) (suc j) a b h k e)

  found_in_row : (xs : List (Option (Entry E))) (r i k : ℕ) (e : Entry E) → IsDistinctRow xs → get_or xs k None ≡ Some e
      → find nat_cmp e.number (in_row r i xs) ≡ Some (table_entry (place r (i + k)) e.value)
  found_in_row [] r i k e d h = absurd (let g : None ≡ Some e = h in cc)
  found_in_row (None ∷ xs) r i zero e d h = absurd (let g : None ≡ Some e = h in cc)
  found_in_row (None ∷ xs) r i (suc k) e d h =
      found_in_row xs r (i + 1) k e (tail_distinct None xs d) h ∙ ap (λ n. Some (table_entry (place r n) e.value)) (omega arith)
  found_in_row (Some a ∷ xs) r i zero e d h =
      let same : a ≡ e = cc in
      find_here e.number a.number _ _ (ap (λ x. x.number) (sym same))
      ∙ λ j. Some (table_entry (place r ((let z : i ≡ i + 0 = omega arith in z) j)) ((same j).value))
  found_in_row (Some a ∷ xs) r i (suc k) e d h =
      find_there e.number a.number _ _ (λ p. absurd (omega (arith, d 0 (suc k) a e refl h (sym p))))
      ∙ found_in_row xs r (i + 1) k e (tail_distinct (Some a) xs d) h ∙ ap (λ n. Some (table_entry (place r n) e.value)) (omega arith)

  in_row_of_found : (xs : List (Option (Entry E))) (r i q : ℕ) (s : TableEntry E) → find nat_cmp q (in_row r i xs) ≡ Some s
      → (k : ℕ) × (s.place ≡ place r (i + k)) × (get_or xs k None ≡ Some (entry q s.value))
  in_row_of_found [] r i q s h = absurd (let g : None ≡ Some s = h in cc)
  in_row_of_found (None ∷ xs) r i q s h =
      let f = in_row_of_found xs r (i + 1) q s h in (suc f.0, f.1 ∙ ap (place r) (omega arith), f.2)
  in_row_of_found (Some a ∷ xs) r i q s h =
      ⊎_elim
      (λ e. let same : Some (table_entry (place r i) a.value) ≡ Some s = sym (find_here q a.number _ (in_row r (i + 1) xs) e) ∙ h in
      let same' : (table_entry (place r i) a.value) ≡ s = cc in
      (0, sym (ap (λ x. x.place) same') ∙ ap (place r) (omega arith), λ j. Some (entry ((sym e) j) ((same' j).value))))
      (λ n. let f = in_row_of_found xs r (i + 1) q s (sym (find_there q a.number _ (in_row r (i + 1) xs) n) ∙ h) in
      (suc f.0, f.1 ∙ ap (place r) (omega arith), f.2))
      (cases_eq q a.number)

  first_distinct : (row : List (Option (Entry E))) (rows : List (List (Option (Entry E)))) → IsDistinct (row ∷ rows) → IsDistinctRow row
  first_distinct row rows d i j a b h k e = ap (λ z. z.index) (d (place 0 i) (place 0 j) a b h k e)

  rest_distinct : (row : List (Option (Entry E))) (rows : List (List (Option (Entry E)))) → IsDistinct (row ∷ rows) → IsDistinct rows
  rest_distinct row rows d p q a b h k e =
      let same = d (place (suc p.row) p.index) (place (suc q.row) q.index) a b h k e in
      let r : p.row ≡ q.row = omega (arith, ap (λ z. z.row) same) in
      λ t. place (r t) ((same t).index)

  found_of_standing : (rows : List (List (Option (Entry E)))) (r k i : ℕ) (e : Entry E) → IsDistinct rows
      → standing rows (place k i) ≡ Some e
      → find nat_cmp e.number (in_rows r rows) ≡ Some (table_entry (place (r + k) i) e.value)
  found_of_standing [] r k i e d h = absurd (let g : None ≡ Some e = h in cc)
  found_of_standing (row ∷ rows) r zero i e d h =
      find-left e.number (in_row r 0 row) _ _ (found_in_row row r 0 i e (first_distinct row rows d) h)
      ∙ λ t. Some (table_entry (place ((let z : r ≡ r + 0 = omega arith in z) t) ((let z : 0 + i ≡ i = omega arith in z) t)) e.value)
  found_of_standing (row ∷ rows) r (suc k) i e d h =
      find-right e.number (in_row r 0 row) _ (⊎_elim (λ n. n)
      (λ f. let g = in_row_of_found row r 0 e.number f.0 f.1 in
      absurd (omega (arith, ap (λ z. z.row) (d (place 0 g.0) (place (suc k) i) (entry e.number f.0.value) e g.2 h refl))))
      (none_or_some (find nat_cmp e.number (in_row r 0 row))))
      ∙ found_of_standing rows (r + 1) k i e (rest_distinct row rows d) h
      ∙ ap (λ n. Some (table_entry (place n i) e.value)) (omega arith)

  standing_of_found : (rows : List (List (Option (Entry E)))) (r q : ℕ) (s : TableEntry E) → find nat_cmp q (in_rows r rows) ≡ Some s
      → (p : Place) × (s.place ≡ place (r + p.row) p.index) × (standing rows p ≡ Some (entry q s.value))
  standing_of_found [] r q s h = absurd (let g : None ≡ Some s = h in cc)
  standing_of_found (row ∷ rows) r q s h =
      ⊎_elim
      (λ n. let f = standing_of_found rows (r + 1) q s (sym (find-right q (in_row r 0 row) (in_rows (r + 1) rows) n) ∙ h) in
      (place (suc f.0.row) f.0.index, f.1 ∙ ap (λ z. place z f.0.index) (omega arith), f.2))
      (λ f. let both : Some f.0 ≡ Some s = sym (find-left q (in_row r 0 row) (in_rows (r + 1) rows) f.0 f.1) ∙ h in
      let same : f.0 ≡ s = cc in
      let g = in_row_of_found row r 0 q s (f.1 ∙ ap Some same) in
      (place 0 g.0, g.1 ∙ (λ t. place ((let z : r ≡ r + 0 = omega arith in z) t) ((let z : 0 + g.0 ≡ g.0 = omega arith in z) t)), g.2))
      (none_or_some (find nat_cmp q (in_row r 0 row)))

  -- the table has what stands in the places, and nothing else
  pub stands_at : (rows : List (List (Option (Entry E)))) (q : ℕ) (s : TableEntry E) → get (table_of rows).entries q ≡ Some s
      → standing rows s.place ≡ Some (entry q s.value)
  stands_at rows q s h =
      let f = standing_of_found rows 0 q s (sym (get-from_entries nat_cmp_total (in_rows 0 rows) q) ∙ h) in
      ap (standing rows) (f.1 ∙ ap (λ z. place z f.0.index) (omega arith)) ∙ f.2

  pub table_entry_of : (rows : List (List (Option (Entry E)))) (p : Place) (e : Entry E) → IsDistinct rows → standing rows p ≡ Some e
      → get (table_of rows).entries e.number ≡ Some (table_entry p e.value)
  table_entry_of rows p e d h =
      get-from_entries nat_cmp_total (in_rows 0 rows) e.number ∙ found_of_standing rows 0 p.row p.index e d h
      ∙ ap (λ n. Some (table_entry (place n p.index) e.value)) (omega arith)

  -- a map that has what stands in the places is the table's
  pub same_entries : (rows : List (List (Option (Entry E)))) (m : FinMap nat_cmp (TableEntry E)) → IsDistinct rows
      → ((q : ℕ) (s : TableEntry E) → standing rows s.place ≡ Some (entry q s.value) → get m q ≡ Some s)
      → ((q : ℕ) (s : TableEntry E) → get m q ≡ Some s → standing rows s.place ≡ Some (entry q s.value))
      → (table_of rows).entries ≡ m
  same_entries rows m d to from =
      same_map nat_cmp_total nat_cmp-IsAntisymmetric _ _ (λ q. option_same _ _ (λ s h. to q s (stands_at rows q s h))
      (λ s h. table_entry_of rows s.place (entry q s.value) d (from q s h)))

  -- the rows with an entry, or none, in a place
  abbrev pub written : List (List (Option (Entry E))) → Place → Option (Entry E) → List (List (Option (Entry E)))
  written rows p x = slice_set rows p.row (slice_set (get_or rows p.row []) p.index x)

  -- the place is one of the rows'
  abbrev pub IsWithin : List (List (Option (Entry E))) → Place → Type 0
  IsWithin rows p = (p.row < length rows) × (p.index < length (get_or rows p.row []))

  lengths-written : (rows : List (List (Option (Entry E)))) (p : Place) (x : Option (Entry E))
      → map length (written rows p x) ≡ map length rows
  lengths-written rows p x = map-set_same length rows p.row (slice_set (get_or rows p.row []) p.index x)
      [] (length-set (get_or rows p.row []) p.index x)

  pub standing_within : (rows : List (List (Option (Entry E)))) (p : Place) (e : Entry E) → standing rows p ≡ Some e → IsWithin rows p
  standing_within rows p e h =
      let row : p.row < length rows = ⊎_elim (λ l. l)
      (λ past. absurd (let g : None ≡ Some e = sym (ap (λ z. get_or z p.index None) (get_or_past rows p.row [] past)) ∙ h in cc))
      (cases_lt p.row (length rows)) in (
        row,
        ⊎_elim (λ l. l)
            (λ past. absurd (let g : None ≡ Some e = sym (get_or_past (get_or rows p.row []) p.index None past) ∙ h in cc))
            (cases_lt p.index (length (get_or rows p.row []))),
      )

  module _ (rows : List (List (Option (Entry E)))) (p : Place) (x : Option (Entry E)) (inside : IsWithin rows p) where
    row_same : get_or (written rows p x) p.row [] ≡ slice_set (get_or rows p.row []) p.index x
    row_same = get_or-set_same rows p.row _ [] inside.0

    pub standing-written_same : (q : Place) → q ≡ p → standing (written rows p x) q ≡ x
    standing-written_same q e =
        ap (standing (written rows p x)) e ∙ ap (λ row. get_or row p.index None) row_same
        ∙ get_or-set_same (get_or rows p.row []) p.index x None inside.1

    standing-written_other : (q : Place) → q ≢ p → standing (written rows p x) q ≡ standing rows q
    standing-written_other q n =
        ⊎_elim
        (λ r. ap (λ z. get_or (get_or (written rows p x) z []) q.index None) r ∙ ap (λ row. get_or row q.index None) row_same
        ∙ get_or-set_other (get_or rows p.row []) p.index q.index x None (λ i. n (λ t. place (r t) (i t)))
        ∙ ap (λ z. get_or (get_or rows z []) q.index None) (sym r))
        (λ r. ap (λ row. get_or row q.index None) (get_or-set_other rows p.row q.row _ [] r))
        (cases_eq q.row p.row)

    -- what a place has after a write
    standing-written_cases : (q : Place) (e : Entry E) → standing (written rows p x) q ≡ Some e → ((q ≡ p) × (x ≡ Some e))
        ⊎ ((q ≢ p) × (standing rows q ≡ Some e))
    standing-written_cases q e h =
        ⊎_elim
        (λ s. inl (s, sym (standing-written_same q s) ∙ h))
        (λ n. inr (n, sym (standing-written_other q n) ∙ h))
        (place_cases q p)

  -- a write of an entry: no other number is in the place, and the number is in no other place
  module _ (rows : List (List (Option (Entry E)))) (p : Place) (n : ℕ) (v : E) (inside : IsWithin rows p) (d : IsDistinct rows)
      (others : (k : ℕ) (s : TableEntry E) → get (table_of rows).entries k ≡ Some s → k ≢ n → s.place ≢ p)
      (its : (s : TableEntry E) → get (table_of rows).entries n ≡ Some s → s.place ≡ p) where
    place_of : (q : Place) (e : Entry E) → standing rows q ≡ Some e → e.number ≡ n → q ≡ p
    place_of q e h same = its (table_entry q e.value) (ap (get (table_of rows).entries) (sym same) ∙ table_entry_of rows q e d h)

    pub inserted_distinct : IsDistinct (written rows p (Some (entry n v)))
    inserted_distinct i j a b h k e =
        ⊎_elim
        (λ x. ⊎_elim (λ y. x.0 ∙ sym y.0)
        (λ y. absurd (y.0 (place_of j b y.1 (sym e ∙ ap (λ z. z.number) (sym (let s : (entry n v) ≡ a = (let t = x.1 in cc) in s))))))
        (standing-written_cases rows p _ inside j b k))
        (λ x. ⊎_elim (λ y. absurd (x.0 (place_of i a x.1 (e ∙ ap (λ z. z.number)
        (sym (let s : (entry n v) ≡ b = (let t = y.1 in cc) in s))))))
        (λ y. d i j a b x.1 y.1 e)
        (standing-written_cases rows p _ inside j b k))
        (standing-written_cases rows p _ inside i a h)

    inserted_map : (table_of (written rows p (Some (entry n v)))).entries ≡ insert (table_of rows).entries n (table_entry p v)
    inserted_map = same_entries _ _ inserted_distinct
        (λ q s h. ⊎_elim
        (λ x. let same : (entry n v) ≡ (entry q s.value) = (let t = x.1 in cc) in
        get-insert_same _ n _ q (ap (λ z. z.number) (sym same)) ∙ λ i. Some (table_entry ((sym x.0) i) ((same i).value)))
        (λ x. get-insert_other _ n _ q (λ e. x.0 (place_of s.place _ x.1 e)) ∙ table_entry_of rows s.place _ d x.1)
        (standing-written_cases rows p _ inside s.place _ h))
        (λ q s h. ⊎_elim
        (λ e. let same : (table_entry p v) ≡ s = (let g : Some (table_entry p v) ≡ Some s = sym (get-insert_same _ n _ q e) ∙ h in cc) in
        standing-written_same rows p _ inside s.place (ap (λ z. z.place) (sym same)) ∙ (λ i. Some (entry ((sym e) i) ((same i).value))))
        (λ e. let old = sym (get-insert_other _ n _ q e) ∙ h in
        standing-written_other rows p _ inside s.place (others q s old e) ∙ stands_at rows q s old)
        (cases_eq q n))

    pub inserted_is : table_of (written rows p (Some (entry n v))) ≡ inserted (table_of rows) n p v
    inserted_is = λ i. record { entries = inserted_map i; rows = lengths-written rows p (Some (entry n v)) i }

  -- a place that is cleared
  module _ (rows : List (List (Option (Entry E)))) (p : Place) (old : Entry E) (d : IsDistinct rows) (h : standing rows p ≡ Some old) where
    cleared_within : IsWithin rows p
    cleared_within = standing_within rows p old h

    pub removed_entry_distinct : IsDistinct (written rows p None)
    removed_entry_distinct i j a b h k e =
        ⊎_elim (λ x. absurd (let n : None ≡ Some a = x.1 in cc))
        (λ x. ⊎_elim (λ y. absurd (let n : None ≡ Some b = y.1 in cc)) (λ y. d i j a b x.1 y.1 e)
        (standing-written_cases rows p _ cleared_within j b k))
        (standing-written_cases rows p _ cleared_within i a h)

    removed_map : (table_of (written rows p None)).entries ≡ remove (table_of rows).entries old.number
    removed_map = same_entries _ _ removed_entry_distinct
        (λ q s k. ⊎_elim
        (λ x. absurd (let n : None ≡ Some (entry q s.value) = x.1 in cc))
        (λ x. get-remove_other _ old.number q (λ e. x.0 (d s.place p _ old x.1 h e)) ∙ table_entry_of rows s.place _ d x.1)
        (standing-written_cases rows p _ cleared_within s.place _ k))
        (λ q s k. ⊎_elim
        (λ e. absurd (let g : None ≡ Some s = sym (get-remove_same _ old.number q e) ∙ k in cc))
        (λ e. let was = sym (get-remove_other _ old.number q e) ∙ k in
        standing-written_other rows p _ cleared_within s.place
        (λ same. e (let g : Some (entry q s.value) ≡ Some old = sym (stands_at rows q s was) ∙ ap (standing rows) same ∙ h in
        let both : (entry q s.value) ≡ old = cc in ap (λ z. z.number) both)) ∙ stands_at rows q s was)
        (cases_eq q old.number))

    pub removed_entry_is : (n : ℕ) → old.number ≡ n → table_of (written rows p None) ≡ removed (table_of rows) n
    removed_entry_is n e = λ i. record {
      entries = (removed_map ∙ ap (remove (table_of rows).entries) e) i;
      rows = lengths-written rows p None i;
    }

  -- a number's place, or nowhere
  pub inserted_its : (m : FinMap nat_cmp (TableEntry E)) (n : ℕ) (p : Place) → get m n ≡ None → (s : TableEntry E) → get m n ≡ Some s
      → s.place ≡ p
  inserted_its m n p fresh s h = absurd (let g : None ≡ Some s = sym fresh ∙ h in cc)

  -- the value at a place that was found
  pub value_found : (rows : List (List (Option (Entry E)))) (n : ℕ) (p : Place) (e : Entry E) → IsDistinct rows → IsPlaceOf rows n (Some p)
      → standing rows p ≡ Some e → Some e.value ≡ value_at (table_of rows) n
  value_found rows n p e d h at =
      let same : h.0 ≡ e = (let g : Some h.0 ≡ Some e = sym h.1 ∙ at in cc) in
      sym (ap (value_at (table_of rows)) (sym h.2 ∙ ap (λ z. z.number) same) ∙ ap (option_map (λ s. s.value))
      (table_entry_of rows p e d at))

  pub nowhere : (rows : List (List (Option (Entry E)))) (n : ℕ) → IsPlaceOf rows n None → get (table_of rows).entries n ≡ None
  nowhere rows n h = option_same _ None (λ s f. absurd (h s.place _ (stands_at rows n s f) refl))
      (λ s f. absurd (let g : None ≡ Some s = f in cc))

  pub value_none : (rows : List (List (Option (Entry E)))) (n : ℕ) → IsPlaceOf rows n None → None ≡ value_at (table_of rows) n
  value_none rows n h = sym (ap (option_map (λ s. s.value)) (nowhere rows n h))

  -- a value is replaced at its number's place, and a number is taken away from its place
  module _ (rows : List (List (Option (Entry E)))) (n : ℕ) (p : Place) (d : IsDistinct rows) (h : IsPlaceOf rows n (Some p)) where
    pub placed_within : IsWithin rows p
    placed_within = standing_within rows p h.0 h.1

    pub others_apart : (k : ℕ) (s : TableEntry E) → get (table_of rows).entries k ≡ Some s → k ≢ n → s.place ≢ p
    others_apart k s f apart same =
        let g : Some (entry k s.value) ≡ Some h.0 = sym (stands_at rows k s f) ∙ ap (standing rows) same ∙ h.1 in
        let both : (entry k s.value) ≡ h.0 = cc in
        apart (ap (λ z. z.number) both ∙ h.2)

    pub its_table_entry : (s : TableEntry E) → get (table_of rows).entries n ≡ Some s → s.place ≡ p
    its_table_entry s f = d s.place p _ h.0 (stands_at rows n s f) h.1 (sym h.2)

    pub set_distinct : (v : E) → IsDistinct (written rows p (Some (entry n v)))
    set_distinct v = inserted_distinct rows p n v placed_within d others_apart its_table_entry

    pub set_is : (v : E) → IfSome (get (table_of rows).entries n)
        (λ s. table_of (written rows p (Some (entry n v))) ≡ inserted (table_of rows) n s.place v)
    set_is v =
        let there : get (table_of rows).entries n ≡ Some (table_entry p h.0.value) = ap (get (table_of rows).entries) (sym h.2)
        ∙ table_entry_of rows p h.0 d h.1 in
        subst (λ o. IfSome o (λ s. table_of (written rows p (Some (entry n v))) ≡ inserted (table_of rows) n s.place v)) (sym there)
        (inserted_is rows p n v placed_within d others_apart its_table_entry)

    pub removed_distinct : IsDistinct (written rows p None)
    removed_distinct = removed_entry_distinct rows p h.0 d h.1

    pub removed_is : table_of (written rows p None) ≡ removed (table_of rows) n
    removed_is = removed_entry_is rows p h.0 d h.1 n h.2

    pub vacated_is : IfSome (get (table_of rows).entries n) (λ s. IsVacant (table_of (written rows p None)) s.place)
    vacated_is =
        let there : get (table_of rows).entries n ≡ Some (table_entry p h.0.value) = ap (get (table_of rows).entries) (sym h.2)
        ∙ table_entry_of rows p h.0 d h.1 in
        subst (λ o. IfSome o (λ s. IsVacant (table_of (written rows p None)) s.place)) (sym there)
        (λ k s f e. let none : None ≡ Some (entry k s.value) = sym (standing-written_same rows p None placed_within s.place e)
        ∙ stands_at (written rows p None) k s f in cc)

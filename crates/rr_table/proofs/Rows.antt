-- Whole rows that come and go.
use Rattle.std.proofs.Common.{◌≡◌, ℕ, suc, zero, ◌<◌, Option, Some, None, List, [], ◌∷◌, ◌++◌, length, map, refl, sym, ap, ◌∙◌, ⊎_elim, get_or}
use Rattle.std.specs.Prelude.{slice_set, ◌≢◌, replicate, if◌then◌else◌}
use Rattle.std.specs.FinMap.{get}
use Rattle.std.proofs.lemmas.Bool.{cases_eq, eq-eqb, ne_eqb}
use Rattle.std.proofs.lemmas.List.{length-replicate, map-append, map-set, get_or-set_same, get_or-set_other}
use Rattle.rr_table.proofs.Standing.{option_same, stands_at, table_entry_of, same_entries}
use Rattle.rr_table.specs.TableView.{TableEntry, with_row, outside, IsRenewed}
use Rattle.rr_table.specs.Places.{place, entry, table_of, standing, IsDistinct}
use Rattle.rr_table.specs.declared.place.Place.{Place}
use Rattle.rr_table.specs.declared.table.Entry.{Entry}

module _ {E : Type 0} where
  none_in_vacant : (n i : ℕ) → get_or (replicate {A = Option (Entry E)} n None) i None ≡ None
  none_in_vacant zero i = refl
  none_in_vacant (suc n) zero = refl
  none_in_vacant (suc n) (suc i) = none_in_vacant n i

  pub none_distinct : IsDistinct {E = E} []
  none_distinct p q a b h k e = absurd (let g : None ≡ Some a = h in cc)

  standing_at-pushed : (rows : List (List (Option (Entry E)))) (n r i : ℕ)
      → standing (rows ++ replicate n None ∷ []) (place r i) ≡ standing rows (place r i)
  standing_at-pushed [] n zero i = none_in_vacant n i
  standing_at-pushed [] n (suc r) i = refl
  standing_at-pushed (row ∷ rows) n zero i = refl
  standing_at-pushed (row ∷ rows) n (suc r) i = standing_at-pushed rows n r i

  standing-pushed : (rows : List (List (Option (Entry E)))) (n : ℕ) (p : Place)
      → standing (rows ++ replicate n None ∷ []) p ≡ standing rows p
  standing-pushed rows n p = standing_at-pushed rows n p.row p.index

  -- a last row of vacant places
  module _ (rows : List (List (Option (Entry E)))) (n : ℕ) (d : IsDistinct rows) where
    pub pushed_distinct : IsDistinct (rows ++ replicate n None ∷ [])
    pushed_distinct p q a b h k e = d p q a b (sym (standing-pushed rows n p) ∙ h) (sym (standing-pushed rows n q) ∙ k) e

    pushed_map : (table_of (rows ++ replicate n None ∷ [])).entries ≡ (table_of rows).entries
    pushed_map = same_entries _ _ pushed_distinct
        (λ q s h. table_entry_of rows s.place (entry q s.value) d (sym (standing-pushed rows n s.place) ∙ h))
        (λ q s h. standing-pushed rows n s.place ∙ stands_at rows q s h)

    pushed_lengths : map length (rows ++ replicate n None ∷ []) ≡ map length rows ++ n ∷ []
    pushed_lengths = map-append length rows (replicate n None ∷ [])
        ∙ ap (λ l. map length rows ++ l ∷ []) (length-replicate {A = Option (Entry E)} n None)

    pub pushed_is : table_of (rows ++ replicate n None ∷ []) ≡ with_row (table_of rows) n
    pushed_is = λ t. record { entries = pushed_map t; rows = pushed_lengths t }

  outside_in : (r : ℕ) (s : TableEntry E) → s.place.row ≡ r → outside r (Some s) ≡ None
  outside_in r s e = ap (λ b. if b then None else Some s) (eq-eqb s.place.row r e)

  outside_out : (r : ℕ) (s : TableEntry E) → s.place.row ≢ r → outside r (Some s) ≡ Some s
  outside_out r s n = ap (λ b. if b then None else Some s) (ne_eqb s.place.row r n)

  -- what is left is outside the row, and was there
  pub outside_some : (r : ℕ) (o : Option (TableEntry E)) (s : TableEntry E) → outside r o ≡ Some s → (o ≡ Some s) × (s.place.row ≢ r)
  outside_some r None s h = absurd (let g : None ≡ Some s = h in cc)
  outside_some r (Some x) s h = ⊎_elim
      (λ e. absurd (let g : None ≡ Some s = sym (outside_in r x e) ∙ h in cc))
      (λ n. let both : Some x ≡ Some s = sym (outside_out r x n) ∙ h in
      let same : x ≡ s = cc in
      (both, λ e. n (ap (λ z. z.place.row) same ∙ e)))
      (cases_eq x.place.row r)

  -- a row that gets vacant places
  module _ (rows : List (List (Option (Entry E)))) (r n : ℕ) (inside : r < length rows) (d : IsDistinct rows) where
    standing-renewed_in : (p : Place) → p.row ≡ r → standing (slice_set rows r (replicate n None)) p ≡ None
    standing-renewed_in p e =
        ap (λ z. get_or (get_or (slice_set rows r (replicate n None)) z []) p.index None) e
        ∙ ap (λ row. get_or row p.index None) (get_or-set_same rows r (replicate n None) [] inside) ∙ none_in_vacant n p.index

    standing-renewed_out : (p : Place) → p.row ≢ r → standing (slice_set rows r (replicate n None)) p ≡ standing rows p
    standing-renewed_out p e = ap (λ row. get_or row p.index None) (get_or-set_other rows r p.row (replicate n None) [] e)

    renewed_some : (p : Place) (e : Entry E) → standing (slice_set rows r (replicate n None)) p ≡ Some e → (p.row ≢ r)
        × (standing rows p ≡ Some e)
    renewed_some p e h = ⊎_elim
        (λ i. absurd (let g : None ≡ Some e = sym (standing-renewed_in p i) ∙ h in cc))
        (λ o. (o, sym (standing-renewed_out p o) ∙ h))
        (cases_eq p.row r)

    pub renewed_distinct : IsDistinct (slice_set rows r (replicate n None))
    renewed_distinct p q a b h k e = d p q a b (renewed_some p a h).1 (renewed_some q b k).1 e

    renewed_get : (k : ℕ) → get (table_of (slice_set rows r (replicate n None))).entries k ≡ outside r (get (table_of rows).entries k)
    renewed_get k = option_same _ _
        (λ s h. let f = renewed_some s.place _ (stands_at _ k s h) in
        ap (outside r) (table_entry_of rows s.place (entry k s.value) d f.1) ∙ outside_out r s f.0)
        (λ s h. let f = outside_some r _ s h in
        table_entry_of _ s.place (entry k s.value) renewed_distinct (standing-renewed_out s.place f.1 ∙ stands_at rows k s f.0))

    pub renewed_is : IsRenewed r n (table_of rows) (table_of (slice_set rows r (replicate n None)))
    renewed_is = (
      map-set length rows r (replicate n None) ∙ ap (slice_set (map length rows) r)
          (length-replicate {A = Option (Entry E)} n None),
      renewed_get,
    )

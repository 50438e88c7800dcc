-- Laws on tables, for callers: which places are vacant and which numbers are there.
use Rattle.std.proofs.Common.{◌≡◌, ℕ, Option, Some, None, refl, sym, ap, ◌∙◌, ⊎_elim}
use Rattle.std.specs.Prelude.{◌≢◌, option_map}
use Rattle.std.specs.Ordering.{nat_cmp}
use Rattle.std.specs.FinMap.{get, get-empty}
use Rattle.rr_table.proofs.MapLaws.{get-insert_cases, get-remove_cases}
use Rattle.rr_table.proofs.Rows.{outside_some}
use Rattle.rr_table.specs.TableView.{TableEntry, TableView, empty_table, value_at, inserted, removed, IsVacant, IsRenewed}
use Rattle.rr_table.specs.declared.place.Place.{Place}

module _ {E : Type 0} where
  -- each place of an empty table is vacant
  pub vacant-empty_table : (p : Place) → IsVacant {E = E} empty_table p
  vacant-empty_table p k s h = absurd (let g : None ≡ Some s = sym (get-empty nat_cmp k) ∙ h in cc)

  -- a value in another place leaves a place vacant
  pub vacant-inserted : (t : TableView E) (n : ℕ) (q : Place) (v : E) (p : Place) → IsVacant t p → q ≢ p → IsVacant (inserted t n q v) p
  vacant-inserted t n q v p free other k s h = ⊎_elim
      (λ x. λ e. other (ap (λ z. z.place) x.1 ∙ e))
      (λ x. free k s x.1)
      (get-insert_cases t.entries n _ k s h)

  -- what is taken away leaves a place vacant
  pub vacant-removed : (t : TableView E) (n : ℕ) (p : Place) → IsVacant t p → IsVacant (removed t n) p
  vacant-removed t n p free k s h = free k s (get-remove_cases t.entries n k s h).1

  -- the place of a number that is taken away is vacant, where no other number had it
  pub vacated : (t : TableView E) (n : ℕ) (p : Place) → ((k : ℕ) (s : TableEntry E) → get t.entries k ≡ Some s → k ≢ n → s.place ≢ p)
      → IsVacant (removed t n) p
  vacated t n p others k s h = let r = get-remove_cases t.entries n k s h in others k s r.1 r.0

  -- each place of a renewed row is vacant
  pub vacant-renewed : (r n : ℕ) (old new : TableView E) (p : Place) → IsRenewed r n old new → p.row ≡ r → IsVacant new p
  vacant-renewed r n old new p renewed in_row k s h e =
      (outside_some r (get old.entries k) s (sym (renewed.1 k) ∙ h)).1 (ap (λ z. z.row) e ∙ in_row)

  -- a place of another row is vacant after a renewal where it was before
  pub vacant-other_row : (r n : ℕ) (old new : TableView E) (p : Place) → IsRenewed r n old new → IsVacant old p → IsVacant new p
  vacant-other_row r n old new p renewed free k s h = free k s (outside_some r (get old.entries k) s (sym (renewed.1 k) ∙ h)).0

  some_value : (o : Option (TableEntry E)) → option_map (λ s. s.value) o ≢ None → o ≢ None
  some_value o h e = h (ap (option_map (λ s. s.value)) e)

  no_value : (o : Option (TableEntry E)) → option_map (λ s. s.value) o ≡ None → o ≡ None
  no_value None h = refl
  no_value (Some s) h = absurd (let g : Some s.value ≡ None = h in cc)

  -- what an answer of `get` says of the number
  pub is_there : (t : TableView E) (n : ℕ) → value_at t n ≢ None → get t.entries n ≢ None
  is_there t n h = some_value (get t.entries n) h

  pub is_fresh : (t : TableView E) (n : ℕ) → value_at t n ≡ None → get t.entries n ≡ None
  is_fresh t n h = no_value (get t.entries n) h

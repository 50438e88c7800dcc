-- What stands under a number in one place.
use Rattle.std.proofs.Common.{◌≡◌, ℕ, true, false, cond, eqb, List, Option, Some, None, refl, sym, ap, ◌∙◌, ⊎_elim}
use Rattle.std.specs.Prelude.{◌≢◌, ◌&&◌, option_and_then}
use Rattle.std.specs.Ordering.{nat_cmp}
use Rattle.std.specs.FinMap.{FinMap, get}
use Rattle.std.proofs.lemmas.Bool.{eq-eqb, eqb-true}
use Rattle.rr_table.specs.TableView.{TableEntry, table_entry, kept_in, value_in}
use Rattle.rr_table.specs.Places.{place, entry, of_number, table_of, standing, IsDistinct}
use Rattle.rr_table.specs.declared.place.Place.{Place}
use Rattle.rr_table.specs.declared.table.Entry.{Entry}
use Rattle.rr_table.proofs.Here.{of_number_none}
use Rattle.rr_table.proofs.Standing.{table_entry_of, stands_at, none_or_some}

module _ {E : Type 0} where
  -- an entry in its own place keeps its value
  pub kept_in_own : (p : Place) (v : E) → kept_in p (table_entry p v) ≡ Some v
  kept_in_own p v =
      ap (λ b. cond (b && eqb p.index p.index) (Some v) None) (eq-eqb p.row p.row refl)
      ∙ ap (λ b. cond b (Some v) None) (eq-eqb p.index p.index refl)

  -- what is kept of an entry in a place is the value of an entry that stands there
  pub kept_in_place : (p : Place) (s : TableEntry E) (v : E) → kept_in p s ≡ Some v → (s.place ≡ p) × (s.value ≡ v)
  kept_in_place p s v h =
      elim (eqb s.place.row p.row) as (λ a. eqb s.place.row p.row ≡ a → cond (a && eqb s.place.index p.index) (Some s.value) None ≡ Some v
      → (s.place ≡ p) × (s.value ≡ v)) [
        | true ↦ λ r. elim (eqb s.place.index p.index) as (λ b. eqb s.place.index p.index ≡ b → cond b (Some s.value) None ≡ Some v
            → (s.place ≡ p) × (s.value ≡ v)) [
              | true ↦ λ i. λ e. (λ t. place (eqb-true _ _ r t) (eqb-true _ _ i t), (let g : Some s.value ≡ Some v = e in cc))
              | false ↦ λ i. λ e. absurd (let g : None ≡ Some v = e in cc)
            ] refl
        | false ↦ λ r. λ e. absurd (let g : None ≡ Some v = e in cc)
      ] refl h

  -- an entry in another place keeps nothing
  pub kept_in_other : (p : Place) (s : TableEntry E) → s.place ≢ p → kept_in p s ≡ None
  kept_in_other p s other = ⊎_elim (λ e. e) (λ f. absurd (other (kept_in_place p s f.0 f.1).0)) (none_or_some (kept_in p s))

  kept_nowhere : (m : FinMap nat_cmp (TableEntry E)) (n : ℕ) (p : Place) → ((s : TableEntry E) → get m n ≡ Some s → s.place ≢ p)
      → None ≡ option_and_then (kept_in p) (get m n)
  kept_nowhere m n p other =
      ⊎_elim
      (λ e. sym (ap (option_and_then (kept_in p)) e))
      (λ f. sym (ap (option_and_then (kept_in p)) f.1 ∙ kept_in_other p f.0 (other f.0 f.1)))
      (none_or_some (get m n))

  module _ (rows : List (List (Option (Entry E)))) (n : ℕ) (p : Place) where
    -- the number stands in the place
    pub kept_here : (e : Entry E) → IsDistinct rows → standing rows p ≡ Some e → e.number ≡ n → Some e.value ≡ value_in (table_of rows) n p
    kept_here e d at is =
        sym (ap (λ k. value_in (table_of rows) k p) (sym is) ∙ ap (option_and_then (kept_in p)) (table_entry_of rows p e d at)
        ∙ kept_in_own p e.value)

    -- another number stands there
    pub kept_not : (e : Entry E) → standing rows p ≡ Some e → e.number ≢ n → None ≡ value_in (table_of rows) n p
    kept_not e at other =
        kept_nowhere (table_of rows).entries n p
        (λ s h is. let g : Some (entry n s.value) ≡ Some e = sym (ap (standing rows) (sym is) ∙ stands_at rows n s h) ∙ at in
        let same : entry n s.value ≡ e = cc in
        other (ap (λ x. x.number) (sym same)))

    -- nothing does
    pub kept_none : standing rows p ≡ None → None ≡ value_in (table_of rows) n p
    kept_none at =
        kept_nowhere (table_of rows).entries n p
        (λ s h is. absurd (let g : None ≡ Some (entry n s.value) = sym at ∙ ap (standing rows) (sym is) ∙ stands_at rows n s h in cc))

    -- the number doesn't stand there
    pub kept_unless : of_number n (standing rows p) ≡ None → None ≡ value_in (table_of rows) n p
    kept_unless none =
        ⊎_elim kept_none (λ f. kept_not f.0 f.1 (of_number_none n (standing rows p) none f.0 f.1)) (none_or_some (standing rows p))

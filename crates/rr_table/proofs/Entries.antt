-- Entries as what stands in their places.
use Rattle.std.proofs.Common.{◌≡◌, ℕ, suc, zero, ◌+◌, ◌<◌, true, false, cond, eqb, Some, None, List, [], ◌∷◌, length, map, replicate, refl, sym, ap, ◌∙◌, get_or, arith, Vec, Global}
use Rattle.std.specs.Prelude.{◌≢◌, ◌^◌}
use Rattle.std.proofs.lemmas.Bool.{ne_eqb, eq-eqb}
use Rattle.std.proofs.lemmas.List.{get_or-map}
use Rattle.rr_table.specs.Places.{entry, vacant_number, occupied, places_of, rows_of, IsPlaceOf}
use Rattle.rr_table.specs.declared.place.Place.{Place}
use Rattle.rr_table.specs.declared.table.Entry.{Entry}
use Rattle.rr_table.specs.declared.table.Row.{Row}

-- a number that is small enough is not the vacant one
pub not_vacant : (n : ℕ) → n + 1 < 2 ^ 64 → n ≢ vacant_number
not_vacant n h e = omega (arith, h, e)

module _ {E : Type 0} where
  pub occupied_is : (e : Entry E) → e.number ≢ vacant_number → occupied e ≡ Some e
  occupied_is e n = ap (λ b. cond b None (Some e)) (ne_eqb e.number vacant_number n)

  pub occupied_none : (e : Entry E) → e.number ≡ vacant_number → occupied e ≡ None
  occupied_none e n = ap (λ b. cond b None (Some e)) (eq-eqb e.number vacant_number n)

  -- what stands in a place is the entry, with a number that is not the vacant one
  pub occupied_some : (x e : Entry E) → occupied x ≡ Some e → (x ≡ e) × (e.number ≢ vacant_number)
  occupied_some x e h = elim (eqb x.number vacant_number)
      as (λ b. eqb x.number vacant_number ≡ b → cond b None (Some x) ≡ Some e → (x ≡ e) × (e.number ≢ vacant_number)) [
        | true ↦ λ _. λ k. absurd (let g : None ≡ Some e = k in cc)
        | false ↦ λ n. λ k. let same : x ≡ e = (let g : Some x ≡ Some e = k in cc) in
            (same, λ v. absurd (let t : true ≡ false = sym (eq-eqb x.number vacant_number (ap (λ z. z.number) same ∙ v)) ∙ n in cc))
      ] refl h

  pub row_number : (xs : List (Entry E)) (i : ℕ) (e : Entry E) → get_or (map occupied xs) i None ≡ Some e → e.number ≢ vacant_number
  row_number [] i e h = absurd (let g : None ≡ Some e = h in cc)
  row_number (x ∷ xs) zero e h = (occupied_some x e h).1
  row_number (x ∷ xs) (suc i) e h = row_number xs i e h

  -- no number that stands in a place is the vacant one
  pub standing_number : (vs : List (Row E)) (r i : ℕ) (e : Entry E)
      → get_or (get_or (map places_of vs) r []) i None ≡ Some e → e.number ≢ vacant_number
  standing_number [] r i e h = absurd (let g : None ≡ Some e = h in cc)
  standing_number (v ∷ vs) zero i e h = row_number v.places.items i e h
  standing_number (v ∷ vs) (suc r) i e h = standing_number vs r i e h

  -- what a read of a place shows
  pub entry_read : (xs : List (Entry E)) (i : ℕ) (x : Entry E) → x ≡ get_or xs i x → i < length xs
      → get_or (map occupied xs) i None ≡ occupied x
  entry_read xs i x is inside = get_or-map occupied xs i x None inside ∙ ap occupied (sym is)

  -- vacant places
  pub occupied-replicate : (n : ℕ) (v : E) → map occupied (replicate n (entry vacant_number v)) ≡ replicate n None
  occupied-replicate zero v = refl
  occupied-replicate (suc n) v = ap (λ l. None ∷ l) (occupied-replicate n v)

-- nor is one whose place was found
pub placed_number : {E : Type 0} (rows : Vec (Row E) Global) (n : ℕ) (p : Place) → IsPlaceOf (rows_of rows) n (Some p)
    → n ≢ vacant_number
placed_number rows n p h v = standing_number rows.items p.row p.index h.0 h.1 (h.2 ∙ v)

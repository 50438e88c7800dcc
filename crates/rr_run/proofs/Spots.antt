-- Places that are kept in spots, and beside them.
use Rattle.std.proofs.Common.{◌≡◌, ◌≢◌, ◌⊎◌, inl, inr, ◌%◌, ◌<◌, ℕ, Bool, true, false, eqb, List, length, get_or, set, Option, Some, None, refl, sym, ap, ◌∙◌}
use Rattle.std.specs.Prelude.{if◌then◌else◌}
use Rattle.std.proofs.lemmas.Bool.{eq-eqb, ne_eqb, eqb-true}
use Rattle.std.proofs.lemmas.List.{get_or-set_same, get_or-set_other}
use Rattle.rr_table.specs.declared.place.Place.{Place}
use Rattle.rr_run.specs.declared.places.Spot.{Spot}
use Rattle.rr_run.specs.Known.{place_at}

-- a spot of another number tells nothing
pub aside : (spot : Spot) (k : ℕ) (other : Option Place) → spot.number ≢ k → place_at (Some spot) k other ≡ other
aside spot k other differs = ap (λ b. if b then Some spot.place else other) (ne_eqb spot.number k differs)

-- its own place
own : (spot : Spot) (k : ℕ) (other : Option Place) → spot.number ≡ k → place_at (Some spot) k other ≡ Some spot.place
own spot k other same = ap (λ b. if b then Some spot.place else other) (eq-eqb spot.number k same)

-- two numbers are one, or not
same_or_not : (a b : ℕ) → (a ≡ b) ⊎ (a ≢ b)
same_or_not a b = go (eqb a b) refl
  where
    go : (t : Bool) → eqb a b ≡ t → (a ≡ b) ⊎ (a ≢ b)
    go true e = inl (eqb-true a b e)
    go false e = inr (λ is. absurd (let f : true ≡ false = sym (eq-eqb a b is) ∙ e in cc))

-- nothing is known of a number in a spot, and so neither of it beside other places
none_beside : (spot : Option Spot) (k : ℕ) (new old : Option Place) → (new ≡ None → old ≡ None) → place_at spot k new ≡ None → place_at spot k old ≡ None
none_beside None k new old still none = still none
none_beside (Some spot) k new old still none = elim (same_or_not spot.number k) [
  | inl is ↦ absurd (let f : Some spot.place ≡ None = sym (own spot k new is) ∙ none in cc)
  | inr differs ↦ aside spot k old differs ∙ still (sym (aside spot k new differs) ∙ none)
]

module _ (spots : List (Option Spot)) (n : ℕ) (within : n % 16 < length spots) where
  -- a number's spot becomes its own: nothing else is lost, if what stood there is found beside the spots
  pub taken : (old new : ℕ → Option Place) (place : Place)
      → ((k : ℕ) → new k ≡ None → old k ≡ None)
      → ((k : ℕ) → n ≢ k → new k ≡ None → place_at (get_or spots (n % 16) None) k (old k) ≡ None)
      → (k : ℕ) → place_at (get_or (set spots (n % 16) (Some (record { number = n; place = place }))) (k % 16) None) k (new k) ≡ None
      → (place_at (get_or spots (k % 16) None) k (old k) ≡ None) × (n ≢ k)
  taken old new place still kept k none = elim (same_or_not n k) [
    | inl is ↦ absurd (let f : Some place ≡ None = sym (ap (λ s. place_at s k (new k)) (ap (λ i. get_or spots' (i % 16) None) (sym is) ∙ mine) ∙ own spot k (new k) is) ∙ none in cc)
    | inr differs ↦ (
      elim (same_or_not (k % 16) (n % 16)) [
        | inl at ↦ ap (λ i. place_at (get_or spots i None) k (old k)) at
            ∙ kept k differs (sym (ap (λ s. place_at s k (new k)) (ap (λ i. get_or spots' i None) at ∙ mine) ∙ aside spot k (new k) differs) ∙ none)
        | inr elsewhere ↦ none_beside (get_or spots (k % 16) None) k (new k) (old k) (still k)
            (ap (λ s. place_at s k (new k)) (sym (get_or-set_other spots (n % 16) (k % 16) (Some spot) None elsewhere)) ∙ none)
      ],
      differs,
    )
  ]
    where
      spot : Spot
      spot = record { number = n; place = place }

      spots' : List (Option Spot)
      spots' = set spots (n % 16) (Some spot)

      mine : get_or spots' (n % 16) None ≡ Some spot
      mine = get_or-set_same spots (n % 16) (Some spot) None within

  module _ (old new : ℕ → Option Place) (gone : new n ≡ None) (others : (k : ℕ) → k ≢ n → new k ≡ old k) where
    -- a number is gone beside the spots, and its spot is not its own
    pub left : ((other : Option Place) → place_at (get_or spots (n % 16) None) n other ≡ other)
        → (place_at (get_or spots (n % 16) None) n (new n) ≡ None)
        × ((k : ℕ) → k ≢ n → place_at (get_or spots (k % 16) None) k (new k) ≡ place_at (get_or spots (k % 16) None) k (old k))
    left foreign = (foreign (new n) ∙ gone, λ k other. ap (place_at (get_or spots (k % 16) None) k) (others k other))

    -- a number is gone beside the spots, and from its own
    pub freed : (spot : Spot) → get_or spots (n % 16) None ≡ Some spot → spot.number ≡ n
        → (place_at (get_or (set spots (n % 16) None) (n % 16) None) n (new n) ≡ None)
        × ((k : ℕ) → k ≢ n → place_at (get_or (set spots (n % 16) None) (k % 16) None) k (new k) ≡ place_at (get_or spots (k % 16) None) k (old k))
    freed spot stood own_number = (
      ap (λ s. place_at s n (new n)) empty ∙ gone,
      λ k other. elim (same_or_not (k % 16) (n % 16)) [
        | inl at ↦ ap (λ s. place_at s k (new k)) (ap (λ i. get_or spots' i None) at ∙ empty) ∙ others k other
            ∙ sym (ap (λ s. place_at s k (old k)) (ap (λ i. get_or spots i None) at ∙ stood) ∙ aside spot k (old k) (λ is. other (sym is ∙ own_number)))
        | inr elsewhere ↦ ap (λ s. place_at s k (new k)) (get_or-set_other spots (n % 16) (k % 16) None None elsewhere)
            ∙ ap (place_at (get_or spots (k % 16) None) k) (others k other)
      ],
    )
      where
        spots' : List (Option Spot)
        spots' = set spots (n % 16) None

        empty : get_or spots' (n % 16) None ≡ None
        empty = get_or-set_same spots (n % 16) None None within

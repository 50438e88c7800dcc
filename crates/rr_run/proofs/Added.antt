-- What stands under a number after another place was put there.
use Rattle.std.proofs.Common.{◌≡◌, ◌≢◌, ℕ, Bool, true, false, cond, eqb, Option, Some, None, refl, sym, ◌∙◌}
use Rattle.std.proofs.lemmas.Bool.{eq-eqb}
use Rattle.rr_table.specs.declared.place.Place.{Place}

-- where nothing stands now nothing stood before, and it is another number
pub added : (before after : ℕ → Option Place) (n : ℕ) (place : Place)
    → ((k : ℕ) → after k ≡ cond (eqb n k) (Some place) (before k))
    → (k : ℕ) → after k ≡ None → (before k ≡ None) × (n ≢ k)
added before after n place puts k none = go (eqb n k) refl (sym (puts k) ∙ none)
  where
    go : (b : Bool) → eqb n k ≡ b → cond b (Some place) (before k) ≡ None → (before k ≡ None) × (n ≢ k)
    go true e put = absurd (let f : Some place ≡ None = put in cc)
    go false e put = (put, λ is. absurd (let f : true ≡ false = sym (eq-eqb n k is) ∙ e in cc))

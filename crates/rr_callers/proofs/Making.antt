-- What elements are that a function made of those of a request.
use Rattle.std.proofs.Common.{◌≡◌, ℕ, ◌+◌, List, [], ◌∷◌, ◌++◌, length, refl, ap, sym, ◌∙◌, subst, arith}
use Rattle.std.specs.Prelude.{map, slice_index}
use Rattle.std.proofs.Math.Seq.{get_or-append_seam}
use Rattle.std.proofs.lemmas.List.{append_assoc, length-append}
use Rattle.rr_ports.specs.Filling.{ReturnsInOrder}

-- a call makes this of the element at its index, and leaves the function
abbrev pub MakesEach : {F : Type 0} → (F → ℕ → ℕ → F → Type 0) → (ℕ → ℕ) → List ℕ → F → Type 0
MakesEach {F} step h asked f = (i x : ℕ) (left : F) → step f i x left → (x ≡ h (slice_index asked i)) × (left ≡ f)

module _ {F : Type 0} (step : F → ℕ → ℕ → F → Type 0) (h : ℕ → ℕ) (asked : List ℕ) (f : F) where
  -- of the rest of a request
  made_rest : MakesEach step h asked f → (before rest xs : List ℕ) (last : F) → asked ≡ before ++ rest → ReturnsInOrder step f (length before) xs last
      → length xs ≡ length rest → xs ≡ map h rest
  made_rest each before [] [] last is returned long = refl
  made_rest each before [] (x ∷ xs) last is returned long = absurd (omega (arith, long))
  made_rest each before (y ∷ ys) [] last is returned long = absurd (omega (arith, long))
  made_rest each before (y ∷ ys) (x ∷ xs) last is returned long =
      let one = each (length before) x returned.0 returned.1.0 in
      let made : x ≡ h y = one.0 ∙ ap (λ zs. h (slice_index zs (length before))) is ∙ ap h (get_or-append_seam before y ys 0) in
      let next : ReturnsInOrder step f (length (before ++ y ∷ [])) xs last =
      subst (λ k. ReturnsInOrder step f k xs last) (sym (length-append before (y ∷ [])))
      (subst (λ p. ReturnsInOrder step p (length before + 1) xs last) one.1 returned.1.1) in
      let others = made_rest each (before ++ y ∷ []) ys xs last (is ∙ sym (append_assoc before (y ∷ []) ys)) next (omega (arith, long)) in
      ap (λ z. z ∷ xs) made ∙ ap (λ zs. h y ∷ zs) others

  -- of all of it
  pub made_are : (xs : List ℕ) (last : F) → ReturnsInOrder step f 0 xs last → length xs ≡ length asked → MakesEach step h asked f → xs ≡ map h asked
  made_are xs last returned long each = made_rest each [] asked xs last refl returned long

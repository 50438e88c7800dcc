-- Changes at several keys, of which each comes once.
use Rattle.std.proofs.Common.{◌≡◌, ◌≢◌, ℕ, zero, suc, List, [], ◌∷◌, Some, map, refl, sym, ap, ◌∙◌, subst, arith}
use Rattle.std.specs.Prelude.{fold, slice_get}
use Rattle.std.proofs.lemmas.Option.{slice_get_within}

-- no two elements have the same key
abbrev pub IsApart : {A X : Type 0} → (X → A) → List X → Type 0
IsApart {A} {X} key xs = (i j : ℕ) (x y : X) → slice_get xs i ≡ Some x → slice_get xs j ≡ Some y → key x ≡ key y → i ≡ j

-- nor do those behind the first one
pub apart_rest : {A X : Type 0} (key : X → A) (x : X) (xs : List X) → IsApart key (x ∷ xs) → IsApart key xs
apart_rest key x xs apart i j y z at there e = omega (arith, apart (suc i) (suc j) y z at there e)

module _ {S B : Type 0} (step : S → B → S) where
  -- what no step changes
  pub stays : {Y : Type 0} (f : S → Y) → ((s : S) (b : B) → f (step s b) ≡ f s) → (changes : List B) (s : S) → f (fold step s changes) ≡ f s
  stays f same [] s = refl
  stays f same (b ∷ changes) s = stays f same changes (step s b) ∙ same s b

  -- what each step keeps
  pub along : (P : S → Type 0) (R : B → Type 0) → ((s : S) (b : B) → R b → P s → P (step s b)) → (changes : List B) (s : S)
      → ((i : ℕ) (b : B) → slice_get changes i ≡ Some b → R b) → P s → P (fold step s changes)
  along P R keep [] s each p = p
  along P R keep (b ∷ changes) s each p = along P R keep changes (step s b) (λ i c at. each (suc i) c at) (keep s b (each 0 b refl) p)

  module _ {A V X : Type 0} (key : B → A) (look : S → A → V) (change : B → V → V) (Fits : S → A → Type 0)
      (here : (s : S) (b : B) → Fits s (key b) → look (step s b) (key b) ≡ change b (look s (key b)))
      (there : (s : S) (b : B) (a : A) → key b ≢ a → look (step s b) a ≡ look s a)
      (keeps : (s : S) (b : B) (a : A) → Fits s a → Fits (step s b) a)
      (of : X → B) where
    -- another key has what it had
    pub passed_by : (xs : List X) (s : S) (a : A) → ((i : ℕ) (x : X) → slice_get xs i ≡ Some x → key (of x) ≢ a)
        → look (fold step s (map of xs)) a ≡ look s a
    passed_by [] s a other = refl
    passed_by (x ∷ xs) s a other = passed_by xs (step s (of x)) a (λ i y at. other (suc i) y at) ∙ there s (of x) a (other 0 x refl)

    -- each of these was changed once
    pub reached : (xs : List X) (s : S) → IsApart (λ x. key (of x)) xs → (i : ℕ) (x : X) → slice_get xs i ≡ Some x → Fits s (key (of x))
        → look (fold step s (map of xs)) (key (of x)) ≡ change (of x) (look s (key (of x)))
    reached [] s apart i x at fits = absurd (omega (arith, slice_get_within [] i x at))
    reached (y ∷ ys) s apart zero x at fits =
        let f : Some y ≡ Some x = at in
        let same : y ≡ x = cc in
        let R : X → Type 0 = λ z. look (fold step (step s (of y)) (map of ys)) (key (of z)) ≡ change (of z) (look s (key (of z))) in
        subst_to R same
        (passed_by ys (step s (of y)) (key (of y)) (λ i z there e. absurd (omega (arith, apart (suc i) 0 z y there refl e)))
        ∙ here s (of y) (subst_back (λ (z : X). Fits s (key (of z))) same fits))
      where
        subst_to : (R : X → Type 0) {x y : X} → x ≡ y → R x → R y
        subst_to R e r = subst R e r

        subst_back : (R : X → Type 0) {x y : X} → x ≡ y → R y → R x
        subst_back R e r = subst R (sym e) r
    reached (y ∷ ys) s apart (suc i) x at fits =
        reached ys (step s (of y)) (apart_rest (λ x. key (of x)) y ys apart) i x at (keeps s (of y) (key (of x)) fits)
        ∙ ap (change (of x)) (there s (of y) (key (of x)) (λ e. absurd (omega (arith, apart 0 (suc i) y x refl at e))))

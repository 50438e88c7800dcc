-- The first element that passes a test, and what is built of each element.
use Rattle.std.proofs.Common.{◌≡◌, ◌||◌, ℕ, suc, Bool, true, false, cond, List, [], ◌∷◌, ◌++◌, None, Some, find, map, refl, sym, ap, ◌∙◌}
use Rattle.std.specs.Prelude.{flat_map, slice_get}
use Rattle.std.specs.Option.{option_or}
use Rattle.std.specs.List.{list_any}
use Rattle.std.proofs.lemmas.List.Folds.{list_any-append, find-append}

-- a list is empty, or an element with a rest
pub data Uncons {X : Type 0} (xs : List X) : Type 0 where
  Nil : xs ≡ [] → Uncons xs
  Cons : (x : X) (rest : List X) → xs ≡ x ∷ rest → Uncons xs

module _ {X : Type 0} (p : X → Bool) where
  -- what is found is tried first
  pub find_here : (x : X) (xs : List X) → p x ≡ true → find p (x ∷ xs) ≡ Some x
  find_here x xs e = rw e refl

  pub find_there : (x : X) (xs : List X) → p x ≡ false → find p (x ∷ xs) ≡ find p xs
  find_there x xs e = rw e refl

  -- what is found passes
  pub found_passes : (xs : List X) (x : X) → find p xs ≡ Some x → p x ≡ true
  found_passes [] x e = absurd (let f : None ≡ Some x = e in cc)
  found_passes (y ∷ ys) x e = go (found_passes ys x) (p y) refl
    where
      go : (find p ys ≡ Some x → p x ≡ true) → (b : Bool) → p y ≡ b → p x ≡ true
      go rest true t = let same : Some y ≡ Some x = sym (find_here y ys t) ∙ e in let f : y ≡ x = cc in ap p (sym f) ∙ t
      go rest false t = rest (sym (find_there y ys t) ∙ e)

  module _ {Y : Type 0} (t : Y → Bool) where
    or_true : (b : Bool) → (b || true) ≡ true
    or_true true = refl
    or_true false = refl

    -- what is built of it is somewhere in what is built of all
    pub any_flat : (g : X → List Y) (xs : List X) (x : X) → find p xs ≡ Some x → list_any t (g x) ≡ true → list_any t (flat_map g xs) ≡ true
    any_flat g [] x e h = absurd (let f : None ≡ Some x = e in cc)
    any_flat g (y ∷ ys) x e h = list_any-append t (g y) (flat_map g ys) ∙ go (λ f. any_flat g ys x f h) (p y) refl
      where
        go : (find p ys ≡ Some x → list_any t (flat_map g ys) ≡ true) → (b : Bool) → p y ≡ b
            → (list_any t (g y) || list_any t (flat_map g ys)) ≡ true
        go rest true s = let same : Some y ≡ Some x = sym (find_here y ys s) ∙ e in let f : y ≡ x = cc in rw f (rw h refl)
        go rest false s = rw (rest (sym (find_there y ys s) ∙ e)) (or_true (list_any t (g y)))

    pub any_mapped : (g : X → Y) (xs : List X) (x : X) → find p xs ≡ Some x → t (g x) ≡ true → list_any t (map g xs) ≡ true
    any_mapped g [] x e h = absurd (let f : None ≡ Some x = e in cc)
    any_mapped g (y ∷ ys) x e h = go (λ f. any_mapped g ys x f h) (p y) refl
      where
        go : (find p ys ≡ Some x → list_any t (map g ys) ≡ true) → (b : Bool) → p y ≡ b → (t (g y) || list_any t (map g ys)) ≡ true
        go rest true s = let same : Some y ≡ Some x = sym (find_here y ys s) ∙ e in let f : y ≡ x = cc in rw f (rw h refl)
        go rest false s = rw (rest (sym (find_there y ys s) ∙ e)) (or_true (t (g y)))

  -- what is found stands somewhere
  pub found_somewhere : (xs : List X) (x : X) → find p xs ≡ Some x → (i : ℕ) × (slice_get xs i ≡ Some x)
  found_somewhere [] x e = absurd (let f : None ≡ Some x = e in cc)
  found_somewhere (y ∷ ys) x e = go (found_somewhere ys x) (p y) refl
    where
      go : (find p ys ≡ Some x → (i : ℕ) × (slice_get ys i ≡ Some x)) → (b : Bool) → p y ≡ b → (i : ℕ) × (slice_get (y ∷ ys) i ≡ Some x)
      go rest true t = (0, sym (find_here y ys t) ∙ e)
      go rest false t = let there = rest (sym (find_there y ys t) ∙ e) in (suc there.0, there.1)

  -- one more element at the end is found last
  pub find_last : (xs : List X) (y : X) → find p (xs ++ y ∷ []) ≡ option_or (find p xs) (cond (p y) (Some y) None)
  find_last xs y = find-append p xs (y ∷ []) ∙ ap (option_or (find p xs))
      (elim (p y) as (λ b. cond b (Some y) None ≡ cond b (Some y) None) [ true ↦ refl | false ↦ refl ])

-- Facts of each element of a list, and what is found in a list, through changes of the list.
use Rattle.std.proofs.Common.{◌≡◌, ℕ, suc, zero, ◌≤◌, Bool, true, false, cond, not, eqb, List, [], ◌∷◌, ◌++◌, map, length, drop, Option, Some, None, option_map, refl, sym, ap, ◌∙◌, subst, arith}
use Rattle.std.specs.Prelude.{◌&&◌, ◌||◌, find, filter, filter_map, is_some}
use Rattle.std.specs.List.{AllByRecursion, list_any, cons_option}
use Rattle.std.specs.Option.{option_map_or}
use Rattle.std.proofs.lemmas.Bool.{eq-eqb, eqb-true}

module _ {X : Type 0} where
  -- a weaker fact of each element
  pub all_each : (P R : X → Type 0) → ((x : X) → P x → R x) → (xs : List X) → AllByRecursion P xs → AllByRecursion R xs
  all_each P R f [] h = tt
  all_each P R f (x ∷ xs) h = (f x h.0, all_each P R f xs h.1)

  -- a fact of each element, and of one more at the end
  pub all_append : (P : X → Type 0) (xs : List X) (x : X) → AllByRecursion P xs → P x → AllByRecursion P (xs ++ x ∷ [])
  all_append P [] x h p = (p, tt)
  all_append P (y ∷ ys) x h p = (h.0, all_append P ys x h.1 p)

  -- a fact of each element holds of those that are left
  pub all_drop : (P : X → Type 0) (k : ℕ) (xs : List X) → AllByRecursion P xs → AllByRecursion P (drop k xs)
  all_drop P zero xs h = h
  all_drop P (suc k) [] h = tt
  all_drop P (suc k) (x ∷ xs) h = all_drop P k xs h.1

  -- and of those that pass a test
  pub all_filter : (P : X → Type 0) (p : X → Bool) (xs : List X) → AllByRecursion P xs → AllByRecursion P (filter p xs)
  all_filter P p [] h = tt
  all_filter P p (x ∷ xs) h =
      elim (p x) as (λ b. AllByRecursion P (cond b (x ∷ filter p xs) (filter p xs)))
      [ true ↦ (h.0, all_filter P p xs h.1) | false ↦ all_filter P p xs h.1 ]

  -- and of the one that is found
  pub all_found : (P : X → Type 0) (p : X → Bool) (xs : List X) (x : X) → AllByRecursion P xs → find p xs ≡ Some x → P x
  all_found P p [] x h e = absurd (cc)
  all_found P p (y ∷ ys) x h e = go (all_found P p ys x h.1) (p y) e
    where
      go : (find p ys ≡ Some x → P x) → (b : Bool) → cond b (Some y) (find p ys) ≡ Some x → P x
      go rest true e = subst P (let g : y ≡ x = cc in g) h.0
      go rest false e = rest e

  -- a fact of what is found holds of it
  pub passes_found : (p : X → Bool) (xs : List X) (x : X) → find p xs ≡ Some x → p x ≡ true
  passes_found p [] x e = absurd (cc)
  passes_found p (y ∷ ys) x e = go (passes_found p ys x) (p y) refl e
    where
      go : (find p ys ≡ Some x → p x ≡ true) → (b : Bool) → p y ≡ b → cond b (Some y) (find p ys) ≡ Some x → p x ≡ true
      go rest true t e = subst (λ z. p z ≡ true) (let g : y ≡ x = cc in g) t
      go rest false t e = rest e

  -- no more elements pass a test than there are
  pub length-filter_le : (p : X → Bool) (xs : List X) → length (filter p xs) ≤ length xs
  length-filter_le p [] = omega arith
  length-filter_le p (x ∷ xs) =
      let rest = length-filter_le p xs in
      elim (p x) as (λ b. length (cond b (x ∷ filter p xs) (filter p xs)) ≤ suc (length xs)) [ true ↦ omega arith | false ↦ omega arith ]

  -- who passes a test is one of those found by it
  pub any_found : (p : X → Bool) (xs : List X) → is_some (find p xs) ≡ list_any p xs
  any_found p [] = refl
  any_found p (x ∷ xs) = elim (p x) as (λ b. is_some (cond b (Some x) (find p xs)) ≡ (b || list_any p xs))
      [ true ↦ refl | false ↦ any_found p xs ]

  -- what is found after one more came
  pub find-append : (p : X → Bool) (xs : List X) (y : X) → find p (xs ++ y ∷ []) ≡ cond (is_some (find p xs)) (find p xs)
      (cond (p y) (Some y) None)
  find-append p [] y = refl
  find-append p (x ∷ xs) y = elim (p x) as (λ b. cond b (Some x) (find p (xs ++ y ∷ [])) ≡ cond (is_some (cond b (Some x) (find p xs)))
      (cond b (Some x) (find p xs)) (cond (p y) (Some y) None)) [
        | true ↦ refl
        | false ↦ find-append p xs y
      ]

module _ {X : Type 0} (id : X → ℕ) where
  -- what is found when those with one number are gone
  pub find-gone : (gone n : ℕ) (xs : List X) → find (λ x. eqb (id x) n) (filter (λ x. not (eqb (id x) gone)) xs) ≡ cond (eqb n gone) None
      (find (λ x. eqb (id x) n) xs)
  find-gone gone n [] = elim (eqb n gone) as (λ b. ◌≡◌ {A = Option X} None (cond b None None)) [ true ↦ refl | false ↦ refl ]
  find-gone gone n (x ∷ xs) = go (find-gone gone n xs) (eqb (id x) gone) refl
    where
      other : eqb (id x) gone ≡ true → (b : Bool) → eqb (id x) n ≡ b
          → cond (eqb n gone) None (find (λ x. eqb (id x) n) xs) ≡ cond (eqb n gone) None (cond b (Some x) (find (λ x. eqb (id x) n) xs))
      other e true f = rw (eq-eqb n gone (sym (eqb-true _ _ f) ∙ eqb-true _ _ e)) refl
      other e false f = refl

      here : (find (λ x. eqb (id x) n) (filter (λ x. not (eqb (id x) gone)) xs) ≡ cond (eqb n gone) None (find (λ x. eqb (id x) n) xs))
          → eqb (id x) gone ≡ false → (b : Bool) → eqb (id x) n ≡ b →
          cond b (Some x) (find (λ x. eqb (id x) n) (filter (λ x. not (eqb (id x) gone)) xs)) ≡ cond (eqb n gone) None
          (cond b (Some x) (find (λ x. eqb (id x) n) xs))
      here rest e true f = rw (sym (ap (λ k. eqb k gone) (eqb-true _ _ f)) ∙ e) refl
      here rest e false f = rest

      go : (find (λ x. eqb (id x) n) (filter (λ x. not (eqb (id x) gone)) xs) ≡ cond (eqb n gone) None (find (λ x. eqb (id x) n) xs))
          → (b : Bool) → eqb (id x) gone ≡ b →
          find (λ x. eqb (id x) n) (cond (not b) (x ∷ filter (λ x. not (eqb (id x) gone)) xs) (filter (λ x. not (eqb (id x) gone)) xs))
          ≡ cond (eqb n gone) None (cond (eqb (id x) n) (Some x) (find (λ x. eqb (id x) n) xs))
      go rest true e = rest ∙ other e (eqb (id x) n) refl
      go rest false e = here rest e (eqb (id x) n) refl

  -- what is found when each was changed, but for its number
  pub find-changed : (f : X → X) → ((x : X) → id (f x) ≡ id x) → (n : ℕ) (xs : List X)
      → find (λ x. eqb (id x) n) (map f xs) ≡ option_map f (find (λ x. eqb (id x) n) xs)
  find-changed f same n [] = refl
  find-changed f same n (x ∷ xs) =
      ap (λ k. cond (eqb k n) (Some (f x)) (find (λ x. eqb (id x) n) (map f xs))) (same x)
      ∙ elim (eqb (id x) n) as (λ b. cond b (Some (f x)) (find (λ x. eqb (id x) n) (map f xs)) ≡ option_map f
      (cond b (Some x) (find (λ x. eqb (id x) n) xs))) [ true ↦ refl | false ↦ find-changed f same n xs ]

  -- each element is found by its number
  pub each_found : (xs : List X) → AllByRecursion (λ x. is_some (find (λ y. eqb (id y) (id x)) xs) ≡ true) xs
  each_found [] = tt
  each_found (x ∷ xs) = (
    rw (eq-eqb (id x) (id x) refl) refl,
    all_each _ _ (λ y h. elim (eqb (id x) (id y)) as (λ b. is_some (cond b (Some x) (find (λ z. eqb (id z) (id y)) xs)) ≡ true)
        [ true ↦ refl | false ↦ h ]) xs (each_found xs),
  )

module _ {X Y : Type 0} (f : X → Y) where
  -- a fact of each element after each changed
  pub all_map : (P : X → Type 0) (R : Y → Type 0) → ((x : X) → P x → R (f x)) → (xs : List X) → AllByRecursion P xs
      → AllByRecursion R (map f xs)
  all_map P R g [] h = tt
  all_map P R g (x ∷ xs) h = (g x h.0, all_map P R g xs h.1)

-- one of two tests passes
pub or_true : (a b : Bool) → b ≡ true → (a || b) ≡ true
or_true true b e = refl
or_true false b e = e

module _ {X : Type 0} where
  -- what is found in a list is found in a longer one
  pub any-append : (t : X → Bool) (xs ys : List X) → list_any t xs ≡ true → list_any t (xs ++ ys) ≡ true
  any-append t [] ys e = absurd (cc)
  any-append t (x ∷ xs) ys e = go (any-append t xs ys) (t x) e
    where
      go : (list_any t xs ≡ true → list_any t (xs ++ ys) ≡ true) → (b : Bool) → (b || list_any t xs) ≡ true
          → (b || list_any t (xs ++ ys)) ≡ true
      go rest true e = e
      go rest false e = rest e

  -- what passes both tests is found among those that pass the first
  pub any-filter : (t p : X → Bool) (xs : List X) → list_any (λ x. p x && t x) xs ≡ true → list_any t (filter p xs) ≡ true
  any-filter t p [] e = e
  any-filter t p (x ∷ xs) e = go (any-filter t p xs) (p x) e
    where
      go : (list_any (λ y. p y && t y) xs ≡ true → list_any t (filter p xs) ≡ true) → (b : Bool)
          → ((b && t x) || list_any (λ y. p y && t y) xs) ≡ true → list_any t (cond b (x ∷ filter p xs) (filter p xs)) ≡ true
      go rest true e = here (t x) e
        where
          here : (b : Bool) → (b || list_any (λ y. p y && t y) xs) ≡ true → (b || list_any t (filter p xs)) ≡ true
          here true e = e
          here false e = rest e
      go rest false e = rest e

module _ {X Y : Type 0} where
  -- a test of what a list is mapped to
  pub any-map : (f : X → Y) (t : Y → Bool) (xs : List X) → list_any t (map f xs) ≡ list_any (λ x. t (f x)) xs
  any-map f t [] = refl
  any-map f t (x ∷ xs) = ap (λ b. t (f x) || b) (any-map f t xs)

  -- a test of what a list gives
  pub any-filter_map : (f : X → Option Y) (t : Y → Bool) (xs : List X)
      → list_any t (filter_map f xs) ≡ list_any (λ x. option_map_or t (f x) false) xs
  any-filter_map f t [] = refl
  any-filter_map f t (x ∷ xs) = one (f x) ∙ ap (λ b. option_map_or t (f x) false || b) (any-filter_map f t xs)
    where
      one : (o : Option Y) → list_any t (cons_option o (filter_map f xs)) ≡ (option_map_or t o false || list_any t (filter_map f xs))
      one None = refl
      one (Some y) = refl

module _ {X : Type 0} where
  -- a weaker test finds no less
  pub any_weaker : (p q : X → Bool) → ((x : X) → p x ≡ true → q x ≡ true) → (xs : List X) → list_any p xs ≡ true → list_any q xs ≡ true
  any_weaker p q h [] e = e
  any_weaker p q h (x ∷ xs) e = go (any_weaker p q h xs) (p x) refl e
    where
      go : (list_any p xs ≡ true → list_any q xs ≡ true) → (b : Bool) → p x ≡ b → (b || list_any p xs) ≡ true
          → (q x || list_any q xs) ≡ true
      go rest true is e = ap (λ c. c || list_any q xs) (h x is)
      go rest false is e = or_true (q x) (list_any q xs) (rest e)

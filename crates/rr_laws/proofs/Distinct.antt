-- Numbers of which none stands twice, as one more comes or some go.
use Rattle.std.proofs.Common.{◌≡◌, ℕ, suc, zero, ◌+◌, ◌-◌, ◌≤◌, Bool, true, false, cond, eqb, List, [], ◌∷◌, ◌++◌, map, length, drop, refl, sym, ap, ◌∙◌, subst, arith}
use Rattle.std.specs.Prelude.{◌||◌, take, filter, nat_eq}
use Rattle.std.specs.List.{AllByRecursion, list_any, IsDistinct}
use Rattle.std.proofs.lemmas.List.{length-append, length-drop, map-append}
use Rattle.rr_protocol.specs.Releases.{kept_senders}
use Rattle.rr_table.proofs.ListFacts.{all_append, all_drop, all_filter, all_map}

module _ {X : Type 0} where
  -- what holds of any element holds of each
  pub all_always : (P : X → Type 0) → ((x : X) → P x) → (xs : List X) → AllByRecursion P xs
  all_always P f [] = tt
  all_always P f (x ∷ xs) = (f x, all_always P f xs)

  -- two facts of each element make a third
  pub all_both : (P R T : X → Type 0) → ((x : X) → P x → R x → T x) → (xs : List X) → AllByRecursion P xs → AllByRecursion R xs
      → AllByRecursion T xs
  all_both P R T f [] p r = tt
  all_both P R T f (x ∷ xs) p r = (f x p.0 r.0, all_both P R T f xs p.1 r.1)

  -- a fact of each element and of its test makes another of those that pass
  pub all_passing : (P R : X → Type 0) (p : X → Bool) → ((x : X) → p x ≡ true → P x → R x) → (xs : List X) → AllByRecursion P xs
      → AllByRecursion R (filter p xs)
  all_passing P R p f [] h = tt
  all_passing P R p f (x ∷ xs) h = go (all_passing P R p f xs h.1) (p x) refl
    where
      go : AllByRecursion R (filter p xs) → (b : Bool) → p x ≡ b → AllByRecursion R (cond b (x ∷ filter p xs) (filter p xs))
      go rest true e = (f x e h.0, rest)
      go rest false e = rest

-- one more number, which did not stand there
pub distinct_append : (xs : List ℕ) (y : ℕ) → IsDistinct nat_eq xs → AllByRecursion (λ x. nat_eq x y ≡ false) xs
    → IsDistinct nat_eq (xs ++ y ∷ [])
unfolding IsDistinct
distinct_append [] y d new = (tt, tt)
distinct_append (x ∷ xs) y d new = (all_append (λ z. nat_eq x z ≡ false) xs y d.0 new.0, distinct_append xs y d.1 new.1)

-- the numbers after the first ones
pub distinct_drop : (k : ℕ) (xs : List ℕ) → IsDistinct nat_eq xs → IsDistinct nat_eq (drop k xs)
unfolding IsDistinct
distinct_drop zero xs d = d
distinct_drop (suc k) [] d = tt
distinct_drop (suc k) (x ∷ xs) d = distinct_drop k xs d.1

-- the numbers that pass a test
pub distinct_filter : (p : ℕ → Bool) (xs : List ℕ) → IsDistinct nat_eq xs → IsDistinct nat_eq (filter p xs)
unfolding IsDistinct
distinct_filter p [] d = tt
distinct_filter p (x ∷ xs) d =
    elim (p x) as (λ b. IsDistinct nat_eq (cond b (x ∷ filter p xs) (filter p xs)))
    [ true ↦ (all_filter _ p xs d.0, distinct_filter p xs d.1) | false ↦ distinct_filter p xs d.1 ]

-- none of the numbers after the first ones is one of those
pub distinct_parts : (k : ℕ) (xs : List ℕ) → IsDistinct nat_eq xs
    → AllByRecursion (λ y. list_any (λ x. eqb x y) (take k xs) ≡ false) (drop k xs)
unfolding IsDistinct
distinct_parts zero xs d = all_always _ (λ y. refl) xs
distinct_parts (suc k) [] d = tt
distinct_parts (suc k) (x ∷ xs) d =
    all_both _ _ _ (λ y other rest. ap (λ b. b || list_any (λ z. eqb z y) (take k xs)) other ∙ rest) (drop k xs)
    (all_drop (λ y. nat_eq x y ≡ false) k xs d.0) (distinct_parts k xs d.1)

-- no more senders are kept than there is room for
pub length-kept_senders_le : (room : ℕ) (senders : List ℕ) (sender : ℕ) → length (kept_senders room senders sender) ≤ room
length-kept_senders_le room senders sender = omega (
  arith,
  length-drop (length senders + 1 - room) (senders ++ sender ∷ []),
  length-append senders (sender ∷ []),
)

module _ {X : Type 0} (id : X → ℕ) where
  -- the numbers after one more came
  pub ids_append : (xs : List X) (y : X) → IsDistinct nat_eq (map id xs) → AllByRecursion (λ x. nat_eq (id x) (id y) ≡ false) xs
      → IsDistinct nat_eq (map id (xs ++ y ∷ []))
  ids_append xs y d new = subst (IsDistinct nat_eq) (sym (map-append id xs (y ∷ [])))
      (distinct_append (map id xs) (id y) d (all_map id _ _ (λ x e. e) xs new))

  ids_passing : (P : ℕ → Type 0) (p : X → Bool) (xs : List X) → AllByRecursion P (map id xs) → AllByRecursion P (map id (filter p xs))
  ids_passing P p [] h = tt
  ids_passing P p (x ∷ xs) h =
      elim (p x) as (λ b. AllByRecursion P (map id (cond b (x ∷ filter p xs) (filter p xs))))
      [ true ↦ (h.0, ids_passing P p xs h.1) | false ↦ ids_passing P p xs h.1 ]

  -- the numbers of those that pass a test
  pub ids_filter : (p : X → Bool) (xs : List X) → IsDistinct nat_eq (map id xs) → IsDistinct nat_eq (map id (filter p xs))
  unfolding IsDistinct
  ids_filter p [] d = tt
  ids_filter p (x ∷ xs) d =
      elim (p x) as (λ b. IsDistinct nat_eq (map id (cond b (x ∷ filter p xs) (filter p xs))))
      [ true ↦ (ids_passing _ p xs d.0, ids_filter p xs d.1) | false ↦ ids_filter p xs d.1 ]

  -- the numbers after each changed, but for its number
  pub ids_changed : (f : X → X) → ((x : X) → id (f x) ≡ id x) → (xs : List X) → map id (map f xs) ≡ map id xs
  ids_changed f same [] = refl
  ids_changed f same (x ∷ xs) = ap (λ n. n ∷ map id (map f xs)) (same x) ∙ ap (λ ns. id x ∷ ns) (ids_changed f same xs)

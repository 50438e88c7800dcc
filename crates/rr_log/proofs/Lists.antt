-- Beginnings of one list, and the entries of one caller.
use Rattle.std.proofs.Common.{◌≡◌, ◌⊎◌, ℕ, eqb, Bool, true, false, if◌then◌else◌, List, [], ◌∷◌, ◌++◌, map, refl, ap, inl, inr}
use mathlib.Core.List.{IsPrefix}
use Rattle.rr_log.specs.Entries.{entries_of}

module _ {A : Type 0} where
  -- of two beginnings of one list one begins the other
  pub prefix_either : (xs ys zs : List A) → IsPrefix xs zs → IsPrefix ys zs → IsPrefix xs ys ⊎ IsPrefix ys xs
  prefix_either [] ys zs p q = inl (ys, refl)
  prefix_either (x ∷ xs) [] zs p q = inr (x ∷ xs, refl)
  prefix_either (x ∷ xs) (y ∷ ys) [] p q = absurd (cc (p.1))
  prefix_either (x ∷ xs) (y ∷ ys) (z ∷ zs) p q =
      let heads : x ≡ y = cc (p.1, q.1) in
      more x y heads xs ys (prefix_either xs ys zs (p.0, cc (p.1)) (q.0, cc (q.1)))
    where
      more : (x y : A) → x ≡ y → (xs ys : List A) → IsPrefix xs ys ⊎ IsPrefix ys xs
          → IsPrefix (x ∷ xs) (y ∷ ys) ⊎ IsPrefix (y ∷ ys) (x ∷ xs)
      more x y same xs ys (inl r) = inl (r.0, cc (same, r.1))
      more x y same xs ys (inr r) = inr (r.0, cc (same, r.1))

module _ {A B : Type 0} (f : A → B) (inj : (x y : A) → f x ≡ f y → x ≡ y) where
  -- where a code tells two values apart, a beginning of the codes is the code of a beginning
  pub prefix_map : (xs ys : List A) → IsPrefix (map f xs) (map f ys) → IsPrefix xs ys
  prefix_map [] ys p = (ys, refl)
  prefix_map (x ∷ xs) [] p = absurd (cc (p.1))
  prefix_map (x ∷ xs) (y ∷ ys) p =
      let more = prefix_map xs ys (p.0, cc (p.1)) in
      let same : x ≡ y = inj x y (cc (p.1)) in
      (more.0, cc (same, more.1))

module _ {E : Type 0} where
  pub entries-append : (caller : ℕ) (xs ys : List (ℕ × E)) → entries_of caller (xs ++ ys) ≡ entries_of caller xs ++ entries_of caller ys
  entries-append caller [] ys = refl
  entries-append caller (x ∷ xs) ys = step (eqb x.0 caller) (entries-append caller xs ys)
    where
      step : (b : Bool) → entries_of caller (xs ++ ys) ≡ entries_of caller xs ++ entries_of caller ys
          → (if b then x.1 ∷ entries_of caller (xs ++ ys) else entries_of caller (xs ++ ys))
          ≡ (if b then x.1 ∷ entries_of caller xs else entries_of caller xs) ++ entries_of caller ys
      step true more = ap (λ w. x.1 ∷ w) more
      step false more = more

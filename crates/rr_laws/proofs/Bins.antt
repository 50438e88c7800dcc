-- Counts over handles and lists: all live messages of a port, by the places where they stand.
use Rattle.std.proofs.Common.{◌≡◌, ℕ, suc, ◌+◌, ◌*◌, ◌≤◌, Bool, true, false, cond, eqb, List, [], ◌∷◌, ◌++◌, map, length, refl, sym, ap, subst, arith}
use Rattle.std.specs.Prelude.{count_by, filter, flat_map}
use Rattle.std.specs.List.{AllByRecursion, list_any}
use Rattle.std.specs.declared.cmp.Ordering.{Ordering}
use Rattle.std.specs.Cmp.{IsTotalOrder}
use Rattle.std.specs.FinMap.{entries}
use Rattle.std.proofs.lemmas.List.{length-map}
use Rattle.std.proofs.lemmas.List.Sums.{length-filter}
use Rattle.rr_protocol.specs.Lists.{Lists, list_of, at, all_elements}
use Rattle.rr_protocol.specs.Counts.{distinct_count}
use Rattle.rr_table.proofs.MapFacts.{all_entries}
use Rattle.rr_table.proofs.Counting.{count-append, count-flat_map}

-- no list has more different numbers than numbers
pub distinct_count_le : (ns : List ℕ) → distinct_count ns ≤ length ns
distinct_count_le [] = omega arith
distinct_count_le (n ∷ ns) = go (list_any (λ m. eqb m n) ns) (distinct_count_le ns)
  where
    go : (b : Bool) → distinct_count ns ≤ length ns → cond b 0 1 + distinct_count ns ≤ suc (length ns)
    go true h = omega (arith, h)
    go false h = omega (arith, h)

module _ {X : Type 0} where
  -- what holds of everything holds of each element
  pub all_of : (R : X → Type 0) → ((x : X) → R x) → (xs : List X) → AllByRecursion R xs
  all_of R h [] = tt
  all_of R h (x ∷ xs) = (h x, all_of R h xs)

  -- different numbers of the elements that pass a test, in two lists
  pub distinct_parts : (number : X → ℕ) (p : X → Bool) (xs ys : List X)
      → distinct_count (map number (filter p (xs ++ ys))) ≤ count_by p xs + count_by p ys
  distinct_parts number p xs ys =
      let all = filter p (xs ++ ys) in
      omega (arith, distinct_count_le (map number all), length-map all number, length-filter p (xs ++ ys), count-append p xs ys)

module _ {X Y Z : Type 0} where
  flat_map-map : (g : X → Y) (f : Y → List Z) (xs : List X) → flat_map f (map g xs) ≡ flat_map (λ x. f (g x)) xs
  flat_map-map g f [] = refl
  flat_map-map g f (x ∷ xs) = ap (λ ys. f (g x) ++ ys) (flat_map-map g f xs)

module _ {A X : Type 0} {cmp : A → A → Ordering} (o : IsTotalOrder cmp) where
  -- what holds of each filled key and its list holds of each entry
  pub all_lists : (R : A × (X × List X) → Type 0) (lists : Lists cmp X)
      → ((key : A) (x : X) (rest : List X) → at lists key ≡ x ∷ rest → R (key, (x, rest))) → AllByRecursion R (entries lists)
  all_lists R lists h = all_entries o R lists (λ key kept e. h key kept.0 kept.1 (ap list_of e))

  -- what lists hold that pass a test, where those that have any pass a test of their own
  pub count_elements : (p : X → Bool) (q : A → Bool) (most : ℕ) (lists : Lists cmp X) → ((key : A) → length (at lists key) ≤ most) →
      ((key : A) → AllByRecursion (λ x. p x ≡ true → q key ≡ true) (at lists key)) →
      count_by p (all_elements lists) ≤ count_by (λ (e : A × (X × List X)). q e.0) (entries lists) * most
  count_elements p q most lists short owned =
      subst (λ xs. count_by p xs ≤ count_by (λ (e : A × (X × List X)). q e.0) (entries lists) * most)
      (sym (flat_map-map (λ (e : A × (X × List X)). e.1) (λ kept. kept.0 ∷ kept.1) (entries lists)))
      (count-flat_map (λ (e : A × (X × List X)). e.1.0 ∷ e.1.1) p (λ e. q e.0) most (entries lists)
      (all_lists (λ e. (length (e.1.0 ∷ e.1.1) ≤ most) × AllByRecursion (λ x. p x ≡ true → q e.0 ≡ true) (e.1.0 ∷ e.1.1)) lists
      (λ key x rest e.
      (subst (λ xs. length xs ≤ most) e (short key), subst (AllByRecursion (λ y. p y ≡ true → q key ≡ true)) e (owned key)))))

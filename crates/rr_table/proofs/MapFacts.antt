-- The entries of a finite map: each is found at its key, and a key stands once.
use Rattle.std.proofs.Common.{◌≡◌, ℕ, ◌+◌, ◌≤◌, Bool, true, false, cond, List, [], ◌∷◌, Some, refl, sym, ap, ◌∙◌, subst, arith}
use Rattle.std.specs.Prelude.{◌&&◌, ◌||◌, count_by}
use Rattle.std.specs.List.{AllByRecursion, list_any}
use Rattle.std.specs.declared.cmp.Ordering.{Ordering}
use Rattle.std.specs.declared.cmp.Ordering.TheVariants.{Less, Equal, Greater}
use Rattle.std.specs.Ordering.{nat_cmp, eq_by_cmp, is_lt, is_eq, ordering_reverse}
use Rattle.std.specs.Cmp.{IsTotalOrder, tied_itself}
use Rattle.std.specs.FinMap.{FinMap, entries, entries_sorted, get, get-entries}
use Rattle.std.specs.FinMap.Entries.{find, is_sorted, below_all}
use Rattle.std.proofs.lemmas.List.Sums.{sum_by-cons}
use Rattle.rr_table.specs.Maps.{mark}
use Rattle.rr_table.proofs.ListFacts.{all_each, or_true}
use lib.Dec.{T}

first : (a b : Bool) → T (a && b) → T a
first true b p = tt
first false b p = p

second : (a b : Bool) → T (a && b) → T b
second true b p = p
second false b p = absurd p

is_less : (o : Ordering) → T (is_lt o) → o ≡ Less
is_less Less p = refl
is_less Equal p = absurd p
is_less Greater p = absurd p

module _ {A : Type 0} {cmp : A → A → Ordering} (o : IsTotalOrder cmp) where
  -- a key ties with itself
  pub itself : (k : A) → eq_by_cmp cmp k k ≡ true
  itself k = ap is_eq (tied_itself o k)

  later : (k j : A) → cmp k j ≡ Less → eq_by_cmp cmp j k ≡ false
  later k j e = ap is_eq (o.antisymm j k ∙ ap ordering_reverse e)

module _ {A X : Type 0} {cmp : A → A → Ordering} (o : IsTotalOrder cmp) where
  -- each key of the rest of a sorted list is above the first
  above : (k : A) (es : List (A × X)) → T (below_all cmp k es) → AllByRecursion (λ e. cmp k e.0 ≡ Less) es
  above k [] h = tt
  above k (e ∷ es) h = (is_less (cmp k e.0) (first _ _ h), above k es (second _ _ h))

  each_entry : (es : List (A × X)) → T (is_sorted cmp es) → AllByRecursion (λ e. find cmp e.0 es ≡ Some e.1) es
  each_entry [] h = tt
  each_entry (e ∷ es) h = (
    ap (λ b. cond b (Some e.1) (find cmp e.0 es)) (itself o e.0),
    both es es (above e.0 es (first _ _ h)) (each_entry es (second _ _ h)),
  )
    where
      both : (rest all : List (A × X)) → AllByRecursion (λ x. cmp e.0 x.0 ≡ Less) rest
          → AllByRecursion (λ x. find cmp x.0 all ≡ Some x.1) rest →
          AllByRecursion (λ x. cond (eq_by_cmp cmp x.0 e.0) (Some e.1) (find cmp x.0 all) ≡ Some x.1) rest
      both [] all a f = tt
      both (x ∷ rest) all a f = (ap (λ b. cond b (Some e.1) (find cmp x.0 all)) (later o e.0 x.0 a.0) ∙ f.0, both rest all a.1 f.1)

  -- what holds of each key and what is found there holds of each entry
  pub all_entries : (P : A × X → Type 0) (m : FinMap cmp X) → ((k : A) (x : X) → get m k ≡ Some x → P (k, x)) → AllByRecursion P (entries m)
  all_entries P m h = all_each _ P (λ e f. h e.0 e.1 (get-entries m e.0 ∙ f)) (entries m) (each_entry (entries m) (entries_sorted m))

  none_later : (p : A → Bool) (k : A) → ((j : A) → p j ≡ true → j ≡ k) → (es : List (A × X)) → AllByRecursion (λ e. cmp k e.0 ≡ Less) es
      → count_by (λ e. p e.0) es ≡ 0
  none_later p k only [] h = refl
  none_later p k only (e ∷ es) h = sum_by-cons (λ x. mark (p x.0)) e es ∙ ap (λ n. mark (p e.0) + n) (none_later p k only es h.1)
      ∙ go (p e.0) refl
    where
      go : (b : Bool) → p e.0 ≡ b → mark b + 0 ≡ 0
      go true t = absurd (let l : cmp k k ≡ Less = subst (λ j. cmp k j ≡ Less) (only e.0 t) h.0 in let q = tied_itself o k in cc)
      go false t = refl

  one_of : (p : A → Bool) (k : A) → ((j : A) → p j ≡ true → j ≡ k) → (es : List (A × X)) → T (is_sorted cmp es)
      → count_by (λ e. p e.0) es ≤ 1
  one_of p k only [] h = omega arith
  one_of p k only (e ∷ es) h = go (one_of p k only es (second _ _ h)) (p e.0) refl
    where
      go : count_by (λ x. p x.0) es ≤ 1 → (b : Bool) → p e.0 ≡ b → count_by (λ x. p x.0) (e ∷ es) ≤ 1
      go rest true t =
          let below : AllByRecursion (λ x. cmp k x.0 ≡ Less) es = subst (λ j. AllByRecursion (λ x. cmp j x.0 ≡ Less) es) (only e.0 t)
          (above e.0 es (first _ _ h)) in
          omega (arith, sum_by-cons (λ (x : A × X). mark (p x.0)) e es, ap mark t, none_later p k only es below)
      go rest false t = omega (arith, sum_by-cons (λ (x : A × X). mark (p x.0)) e es, ap mark t)

  -- a test that only one key passes counts one entry at most
  pub one_entry : (p : A → Bool) (k : A) → ((j : A) → p j ≡ true → j ≡ k) → (m : FinMap cmp X)
      → count_by (λ (e : A × X). p e.0) (entries m) ≤ 1
  one_entry p k only m = one_of p k only (entries m) (entries_sorted m)

module _ {X : Type 0} where
  any_in : (t : X → Bool) (n : ℕ) (es : List (ℕ × X)) (x : X) → find nat_cmp n es ≡ Some x → t x ≡ true → list_any (λ e. t e.1) es ≡ true
  any_in t n [] x e h = absurd (cc)
  any_in t n (f ∷ es) x e h = go (any_in t n es x) (eq_by_cmp nat_cmp n f.0) e
    where
      go : (find nat_cmp n es ≡ Some x → t x ≡ true → list_any (λ e. t e.1) es ≡ true) → (b : Bool)
          → cond b (Some f.1) (find nat_cmp n es) ≡ Some x →
          (t f.1 || list_any (λ e. t e.1) es) ≡ true
      go rest true e = let same : f.1 ≡ x = cc in rw (ap t same ∙ h) refl
      go rest false e = or_true (t f.1) (list_any (λ e. t e.1) es) (rest e h)

  -- a value that passes a test is found by it
  pub any_value : (t : X → Bool) (m : FinMap nat_cmp X) (n : ℕ) (x : X) → get m n ≡ Some x → t x ≡ true
      → list_any (λ e. t e.1) (entries m) ≡ true
  any_value t m n x e h = any_in t n (entries m) x (sym (get-entries m n) ∙ e) h

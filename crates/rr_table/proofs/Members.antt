-- What passes a test in a list, or under a key of a finite map, and where it stands.
use Rattle.std.proofs.Common.{◌≡◌, ◌<◌, ℕ, suc, Bool, true, false, cond, List, [], ◌∷◌, Some, refl, sym, ap, ◌∙◌, arith}
use Rattle.std.specs.Prelude.{◌&&◌, ◌||◌, slice_get, filter, flat_map, count_by}
use Rattle.std.specs.List.{AllByRecursion, list_any}
use Rattle.std.specs.declared.cmp.Ordering.{Ordering}
use Rattle.std.specs.Ordering.{nat_cmp, eq_by_cmp}
use Rattle.std.specs.Cmp.{IsTotalOrder, nat_cmp_total}
use Rattle.std.specs.FinMap.{FinMap, entries, get, get-entries}
use Rattle.std.specs.FinMap.Entries.{find}
use Rattle.std.proofs.lemmas.List.Sums.{sum_by-cons}
use Rattle.std.proofs.lemmas.List.Folds.{list_any-append, list_any_at}
use Rattle.std.proofs.lemmas.Option.{slice_get_within, get_or_from_slice_get}
use Rattle.rr_table.specs.Maps.{tally, mark}
use Rattle.rr_table.proofs.ListFacts.{or_true}
use Rattle.rr_table.proofs.MapFacts.{all_entries}

module _ {X : Type 0} (t : X → Bool) where
  -- an element that passes stands somewhere
  pub any_gives : (xs : List X) → list_any t xs ≡ true → (j : ℕ) × (x : X) × (slice_get xs j ≡ Some x) × (t x ≡ true)
  any_gives [] h = absurd (cc)
  any_gives (x ∷ xs) h = go (any_gives xs) (t x) refl h
    where
      go : (list_any t xs ≡ true → (j : ℕ) × (y : X) × (slice_get xs j ≡ Some y) × (t y ≡ true)) → (b : Bool) → t x ≡ b
          → (b || list_any t xs) ≡ true → (j : ℕ) × (y : X) × (slice_get (x ∷ xs) j ≡ Some y) × (t y ≡ true)
      go rest true e h = (0, x, refl, e)
      go rest false e h = let r = rest h in (suc r.0, r.1, r.2, r.3)

  -- what stands in a list and passes is found
  pub any_there : (xs : List X) (j : ℕ) (x : X) → slice_get xs j ≡ Some x → t x ≡ true → list_any t xs ≡ true
  any_there xs j x e h = list_any_at t xs j x (slice_get_within xs j x e) (ap t (get_or_from_slice_get xs j x x e) ∙ h)

  -- what holds of each element holds of one that passes
  pub any_of_all : {R : X → Type 0} (xs : List X) → AllByRecursion R xs → list_any t xs ≡ true → (x : X) × R x × (t x ≡ true)
  any_of_all [] a h = absurd (cc)
  any_of_all {R} (x ∷ xs) a h = go (any_of_all xs a.1) (t x) refl h
    where
      go : (list_any t xs ≡ true → (y : X) × R y × (t y ≡ true)) → (b : Bool) → t x ≡ b → (b || list_any t xs) ≡ true → (y : X) × R y
          × (t y ≡ true)
      go rest true e h = (x, a.0, e)
      go rest false e h = rest h

  -- of those that pass another test
  pub any-filtered : (p : X → Bool) (xs : List X) → list_any t (filter p xs) ≡ list_any (λ x. p x && t x) xs
  any-filtered p [] = refl
  any-filtered p (x ∷ xs) = go (any-filtered p xs) (p x)
    where
      go : list_any t (filter p xs) ≡ list_any (λ x. p x && t x) xs → (b : Bool)
          → list_any t (cond b (x ∷ filter p xs) (filter p xs)) ≡ ((b && t x) || list_any (λ x. p x && t x) xs)
      go rest true = ap (λ b. t x || b) rest
      go rest false = rest

  -- what is counted is found
  pub counted_found : (xs : List X) → 0 < count_by t xs → list_any t xs ≡ true
  counted_found [] h = absurd (omega (arith, h))
  counted_found (x ∷ xs) h = go (counted_found xs) (t x) refl
    where
      go : (0 < count_by t xs → list_any t xs ≡ true) → (b : Bool) → t x ≡ b → (b || list_any t xs) ≡ true
      go rest true e = refl
      go rest false e = rest (omega (arith, h, sum_by-cons (λ y. mark (t y)) x xs, ap mark e))

-- a test of what each element gives
pub any-flat : {X Y : Type 0} (t : Y → Bool) (g : X → List Y) (xs : List X)
    → list_any t (flat_map g xs) ≡ list_any (λ x. list_any t (g x)) xs
any-flat t g [] = refl
any-flat t g (x ∷ xs) = list_any-append t (g x) (flat_map g xs) ∙ ap (λ b. list_any t (g x) || b) (any-flat t g xs)

module _ {A X : Type 0} {cmp : A → A → Ordering} (o : IsTotalOrder cmp) (t : X → Bool) where
  -- a value that passes stands under a key
  pub entry_gives : (m : FinMap cmp X) → list_any (λ e. t e.1) (entries m) ≡ true → (k : A) × (x : X) × (get m k ≡ Some x) × (t x ≡ true)
  entry_gives m h =
      let r = any_of_all (λ (e : A × X). t e.1) (entries m) (all_entries o (λ e. get m e.0 ≡ Some e.1) m (λ k x e. e)) h in
      (r.0.0, r.0.1, r.1, r.2)

  found_in : (k : A) (es : List (A × X)) (x : X) → find cmp k es ≡ Some x → t x ≡ true → list_any (λ e. t e.1) es ≡ true
  found_in k [] x e h = absurd (cc)
  found_in k (f ∷ es) x e h = go (found_in k es x) (eq_by_cmp cmp k f.0) e
    where
      go : (find cmp k es ≡ Some x → t x ≡ true → list_any (λ e. t e.1) es ≡ true) → (b : Bool) → cond b (Some f.1) (find cmp k es) ≡ Some x
          → (t f.1 || list_any (λ e. t e.1) es) ≡ true
      go rest true e = let same : Some f.1 ≡ Some x = e in let is : f.1 ≡ x = cc in ap (λ b. b || list_any (λ e. t e.1) es) (ap t is ∙ h)
      go rest false e = or_true (t f.1) (list_any (λ e. t e.1) es) (rest e h)

  -- a value under a key is found if it passes
  pub entry_there : (m : FinMap cmp X) (k : A) (x : X) → get m k ≡ Some x → t x ≡ true → list_any (λ e. t e.1) (entries m) ≡ true
  entry_there m k x e h = found_in k (entries m) x (sym (get-entries m k) ∙ e) h

-- a value that is counted stands under a number
pub tally_gives : {X : Type 0} (t : X → Bool) (m : FinMap nat_cmp X) → 0 < tally t m → (k : ℕ) × (x : X) × (get m k ≡ Some x) × (t x ≡ true)
tally_gives {X} t m h = entry_gives nat_cmp_total t m (counted_found (λ (e : ℕ × X). t e.1) (entries m) h)

-- How many values of a map pass a test that none passes, and where elements of a longer list stand.
use Rattle.std.proofs.Common.{◌≡◌, ◌<◌, ◌≤◌, ◌+◌, ℕ, zero, suc, Bool, true, false, List, [], ◌∷◌, ◌++◌, Option, None, Some, length, get_or, refl, sym, ap, ◌∙◌, ⊎_elim, arith}
use Rattle.std.specs.Prelude.{slice_get, count_by}
use Rattle.std.specs.Ordering.{nat_cmp}
use Rattle.std.specs.FinMap as fin_map
use Rattle.std.proofs.lemmas.Bool.{cases_eq, cases_lt, false_from_ne_true}
use Rattle.std.proofs.lemmas.List.{length-append}
use Rattle.std.proofs.lemmas.Option.{slice_get-get_or, get_or_from_slice_get, slice_get_within}
use Rattle.std.proofs.Math.ListN.{get_or-append}
use Rattle.std.proofs.Math.Seq.{get_or-append_seam}
use Rattle.rr_table.specs.Maps.{tally, mark}
use Rattle.rr_table.proofs.MapLaws.{get-remove_other, get-remove_same, map_values-same, tally-map_values, tally-remove}

-- with none in hand it is what the table has
pub and_none : (n : ℕ) → n ≡ n + 0
and_none n = omega arith

count_none : {X : Type 0} (xs : List X) → count_by (λ x. false) xs ≡ 0
count_none [] = refl
count_none (x ∷ xs) = count_none xs

module _ {X : Type 0} (m : fin_map.FinMap nat_cmp X) where
  -- tests that agree on the values count the same
  pub tally-same : (p q : X → Bool) → ((k : ℕ) (x : X) → fin_map.get m k ≡ Some x → p x ≡ q x) → tally p m ≡ tally q m
  tally-same p q same =
      sym (tally-map_values p (λ (b : Bool). b) m) ∙ ap (tally (λ (b : Bool). b)) (map_values-same p q m same)
      ∙ tally-map_values q (λ (b : Bool). b) m

  -- what no value passes
  pub tally-none : (p : X → Bool) → ((k : ℕ) (x : X) → fin_map.get m k ≡ Some x → p x ≡ false) → tally p m ≡ 0
  tally-none p none = tally-same p (λ x. false) none ∙ count_none (fin_map.entries m)

  -- and what none can pass
  pub tally-never : (p : X → Bool) → ((k : ℕ) (x : X) → fin_map.get m k ≡ Some x → p x ≡ true → ⊥) → tally p m ≡ 0
  tally-never p never = tally-none p (λ k x at. false_from_ne_true (p x) (never k x at))

-- an element of a list with one more is one of the list's, or the last
pub snoc_cases : {X Z : Type 0} (xs : List X) (y : X) (i : ℕ) (x : X) → slice_get (xs ++ y ∷ []) i ≡ Some x
    → (slice_get xs i ≡ Some x → i < length xs → Z) → (i ≡ length xs → y ≡ x → Z) → Z
snoc_cases xs y i x e before last =
    let within : i < length xs + 1 = omega (arith, slice_get_within (xs ++ y ∷ []) i x e, length-append xs (y ∷ [])) in
    let is : get_or (xs ++ y ∷ []) i x ≡ x = get_or_from_slice_get (xs ++ y ∷ []) i x x e in
    ⊎_elim
    (λ h. before (slice_get-get_or xs i x h ∙ ap Some (sym (get_or-append xs (y ∷ []) x i h) ∙ is)) h)
    (λ h. let end : i ≡ length xs = omega (arith, within, h) in
    last end (sym (get_or-append_seam xs y [] x) ∙ ap (λ k. get_or (xs ++ y ∷ []) k x) (sym end) ∙ is))
    (cases_lt i (length xs))

-- an element of a list is one of the list with one more
pub snoc_keeps : {X : Type 0} (xs : List X) (y : X) (i : ℕ) (x : X) → slice_get xs i ≡ Some x → slice_get (xs ++ y ∷ []) i ≡ Some x
snoc_keeps xs y i x e =
    let within : i < length xs = slice_get_within xs i x e in
    slice_get-get_or (xs ++ y ∷ []) i x (omega (arith, within, length-append xs (y ∷ [])))
    ∙ ap Some (get_or-append xs (y ∷ []) x i within ∙ get_or_from_slice_get xs i x x e)

mark_one : (b : Bool) → mark b ≤ 1
mark_one true = omega arith
mark_one false = omega arith

past : (k n : ℕ) → n ≤ k → (k ≡ n → ⊥) → suc n ≤ k
past k n h f = ⊎_elim (λ l. omega (arith, l)) (λ l. absurd (f (omega (arith, l, h)))) (cases_lt n k)

-- a map whose numbers are below another has at most that many values that pass
pub tally_below : {X : Type 0} (test : X → Bool) (n : ℕ) (m : fin_map.FinMap nat_cmp X) → ((k : ℕ) → n ≤ k → fin_map.get m k ≡ None)
    → tally test m ≤ n
tally_below test zero m none = omega (
  arith,
  tally-none m test
      (λ k x at. absurd (let f : None ≡ Some x = sym (none k (omega arith)) ∙ at in cc)),
)
tally_below {X} test (suc n) m none = go (fin_map.get m n) refl (tally_below test n)
  where
    go : (o : Option X) → fin_map.get m n ≡ o → ((m : fin_map.FinMap nat_cmp X) → ((k : ℕ) → n ≤ k → fin_map.get m k ≡ None)
        → tally test m ≤ n) → tally test m ≤ suc n
    go None e fewer = omega (arith, fewer m (λ k h. ⊎_elim (λ f. ap (fin_map.get m) f ∙ e) (λ f. none k (past k n h f)) (cases_eq k n)))
    go (Some x) e fewer = omega (
      arith,
      tally-remove test m n x e,
      mark_one (test x),
      fewer (fin_map.remove m n) (λ k h. ⊎_elim (λ f. get-remove_same m n k f) (λ f. get-remove_other m n k f ∙ none k (past k n h f))
          (cases_eq k n)),
    )

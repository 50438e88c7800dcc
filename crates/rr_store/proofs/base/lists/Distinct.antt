-- A list has as many different numbers as there are slots whose numbers stand in it.
use Rattle.std.proofs.Common.{◌≡◌, ◌≢◌, ◌<◌, ◌+◌, ℕ, zero, suc, Bool, true, false, cond, List, [], ◌∷◌, refl, sym, ap, ◌∙◌, ⊎_elim, arith}
use Rattle.std.specs.Prelude.{◌==◌, ◌&&◌, ◌||◌}
use Rattle.std.specs.List.{list_any}
use Rattle.std.proofs.lemmas.Bool.{cases_eq, cases_lt, eq-eqb, ne_eqb}
use Rattle.rr_table.proofs.ListFacts.{or_true}
use Rattle.rr_protocol.specs.Counts.{distinct_count}

-- how many of the first n numbers pass a test
abbrev pub count_below : (ℕ → Bool) → ℕ → ℕ
count_below t zero = 0
count_below t (suc n) = cond (t n) 1 0 + count_below t n

pub below-same : (t u : ℕ → Bool) (n : ℕ) → ((i : ℕ) → i < n → t i ≡ u i) → count_below t n ≡ count_below u n
below-same t u zero same = refl
below-same t u (suc n) same = ap (λ b. cond b 1 0 + count_below t n) (same n (omega arith))
    ∙ ap (λ k. cond (u n) 1 0 + k) (below-same t u n (λ i h. same i (omega (arith, h))))

below-none : (n : ℕ) → count_below (λ i. false) n ≡ 0
below-none zero = refl
below-none (suc n) = omega (arith, below-none n)

-- tests that differ at one number
below-one : (t u : ℕ → Bool) (n i : ℕ) → i < n → t i ≡ true → ((j : ℕ) → j < n → j ≢ i → t j ≡ u j)
    → count_below t n ≡ count_below u n + cond (u i) 0 1
below-one t u zero i h e same = absurd (omega (arith, h))
below-one t u (suc n) i h e same =
    ⊎_elim
    (λ is. omega (
      arith,
      ap {B = ℕ} (λ b. cond b 1 0) (ap t (sym is) ∙ e),
      ap {B = ℕ} (λ j. cond (u j) 1 0) is,
      below-same t u n (λ j l. same j (omega (arith, l)) (λ f. absurd (omega (arith, l, f, is)))),
      one (u i),
    ))
    (λ n_is. omega (
      arith,
      ap {B = ℕ} (λ b. cond b 1 0) (same n (omega arith) (λ f. n_is (sym f))),
      below-one t u n i (omega (arith, h, less i n h n_is)) e (λ j l. same j (omega (arith, l))),
    ))
    (cases_eq i n)
  where
    one : (b : Bool) → cond b 1 0 + cond b 0 1 ≡ 1
    one true = refl
    one false = refl

    less : (i n : ℕ) → i < suc n → (i ≡ n → ⊥) → i < n
    less i n h ne = ⊎_elim (λ l. l) (λ l. absurd (ne (omega (arith, h, l)))) (cases_lt i n)

and_off : (b : Bool) → (b && false) ≡ false
and_off true = refl
and_off false = refl

module _ (number : ℕ → ℕ) (used : ℕ → Bool) (n : ℕ) (apart : (i j : ℕ) → i < n → j < n → used i ≡ true → used j ≡ true → number i ≡ number j
    → i ≡ j) where
  -- whether a slot is used and its number is in the list
  abbrev shows : List ℕ → ℕ → Bool
  shows ns i = used i && list_any (λ m. m == number i) ns

  -- each number of the list is that of a slot
  pub distinct_shown : (ns : List ℕ) → ((x : ℕ) → list_any (λ m. m == x) ns ≡ true → (i : ℕ) × (i < n) × (used i ≡ true) × (number i ≡ x))
      → distinct_count ns ≡ count_below (shows ns) n
  distinct_shown [] from = sym (below-same (shows []) (λ i. false) n (λ i h. and_off (used i)) ∙ below-none n)
  distinct_shown (x ∷ ns) from =
      let it = from x (ap (λ b. b || list_any (λ m. m == x) ns) (eq-eqb x x refl)) in
      let here : shows (x ∷ ns) it.0 ≡ true = rw it.2 (ap (λ b. b || list_any (λ m. m == number it.0) ns)
      (eq-eqb x (number it.0) (sym it.3))) in
      let there : shows ns it.0 ≡ list_any (λ m. m == x) ns = rw it.2 (ap (λ y. list_any (λ m. m == y) ns) it.3) in
      let step = below-one (shows (x ∷ ns)) (shows ns) n it.0 it.1 here (λ j l ne. other j l it ne (used j) refl) in
      omega (
        arith,
        step,
        ap {B = ℕ} (λ b. cond b 0 1) there,
        distinct_shown ns (λ y h. from y (or_true (x == y) (list_any (λ m. m == y) ns) h)),
      )
    where
      other : (j : ℕ) → j < n → (it : (i : ℕ) × (i < n) × (used i ≡ true) × (number i ≡ x)) → j ≢ it.0 → (b : Bool) → used j ≡ b
          → (used j && ((x == number j) || list_any (λ m. m == number j) ns)) ≡ (used j && list_any (λ m. m == number j) ns)
      other j l it ne true u = ap (λ b. used j && (b || list_any (λ m. m == number j) ns))
          (ne_eqb x (number j) (λ e. ne (apart j it.0 l it.1 u it.2 (sym e ∙ sym it.3))))
      other j l it ne false u = rw u refl

  -- and each used slot's number is in the list
  pub distinct_used : (ns : List ℕ) → ((x : ℕ) → list_any (λ m. m == x) ns ≡ true → (i : ℕ) × (i < n) × (used i ≡ true) × (number i ≡ x))
      → ((i : ℕ) → i < n → used i ≡ true → list_any (λ m. m == number i) ns ≡ true) → distinct_count ns ≡ count_below used n
  distinct_used ns from to = distinct_shown ns from ∙ below-same (shows ns) used n (λ i h. go i h (used i) refl)
    where
      go : (i : ℕ) → i < n → (b : Bool) → used i ≡ b → (used i && list_any (λ m. m == number i) ns) ≡ used i
      go i h true u = rw (to i h u) (rw u refl)
      go i h false u = rw u refl

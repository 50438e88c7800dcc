-- The numbers below another, and tests of them.
use Rattle.std.proofs.Common.{◌≡◌, ℕ, suc, zero, ◌+◌, ◌<◌, ◌≤◌, Bool, true, false, eqb, List, [], ◌∷◌, length, refl, ap, ◌∙◌, ⊎_elim, inl, inr, arith}
use Rattle.std.specs.Prelude.{◌⊎◌, ◌||◌, count_by}
use Rattle.std.specs.List.{list_any}
use Rattle.std.proofs.lemmas.Bool.{eq-eqb, ne_eqb, cases_eq}
use Rattle.rr_table.specs.Maps.{mark}
use Rattle.rr_table.proofs.Counting.{count-cons}

-- the numbers below another
unfoldable pub all_below : ℕ → List ℕ
all_below zero = []
all_below (suc n) = n ∷ all_below n

-- so many
pub length-all_below : (n : ℕ) → length (all_below n) ≡ n
unfolding all_below
length-all_below zero = refl
length-all_below (suc n) = ap suc (length-all_below n)

-- a smaller number is one of them
pub any_below : (n k : ℕ) → k < n → list_any (λ j. eqb k j) (all_below n) ≡ true
unfolding all_below
any_below zero k h = absurd (omega arith)
any_below (suc n) k h = go (any_below n k)
  where
    go : (k < n → list_any (λ j. eqb k j) (all_below n) ≡ true) → (eqb k n || list_any (λ j. eqb k j) (all_below n)) ≡ true
    go rest = ⊎_elim
        (λ e. ap (λ b. b || list_any (λ j. eqb k j) (all_below n)) (eq-eqb k n e))
        (λ e. rw (ne_eqb k n e) (rest (omega arith)))
        (cases_eq k n)

none_below : (p : ℕ → Bool) (j : ℕ) → ((k : ℕ) → p k ≡ true → k ≡ j) → (n : ℕ) → n ≤ j → count_by p (all_below n) ≡ 0
unfolding all_below
none_below p j only zero h = refl
none_below p j only (suc n) h = count-cons p n (all_below n) ∙ ap (λ m. mark (p n) + m) (none_below p j only n (omega arith))
    ∙ go (p n) refl
  where
    go : (b : Bool) → p n ≡ b → mark b + 0 ≡ 0
    go true e = absurd (let same = only n e in omega arith)
    go false e = refl

-- a test that one number passes counts one number at most
pub one_below : (p : ℕ → Bool) (j : ℕ) → ((k : ℕ) → p k ≡ true → k ≡ j) → (n : ℕ) → count_by p (all_below n) ≤ 1
unfolding all_below
one_below p j only zero = omega arith
one_below p j only (suc n) = go (one_below p j only n) (p n) refl
  where
    go : count_by p (all_below n) ≤ 1 → (b : Bool) → p n ≡ b → count_by p (n ∷ all_below n) ≤ 1
    go rest true e = omega (arith, count-cons p n (all_below n), ap mark e, none_below p j only n (let same = only n e in omega arith))
    go rest false e = omega (arith, count-cons p n (all_below n), ap mark e)

-- a test that each of them passes counts all
pub count-all : (p : ℕ → Bool) (n : ℕ) → ((k : ℕ) → k < n → p k ≡ true) → count_by p (all_below n) ≡ n
unfolding all_below
count-all p zero h = refl
count-all p (suc n) h = omega (arith, count-cons p n (all_below n), ap mark (h n (omega arith)), count-all p n (λ k l. h k (omega arith)))

-- a test passes all numbers below another, or fails at one of them
pub search_below : (p : ℕ → Bool) (n : ℕ) → ((k : ℕ) → k < n → p k ≡ true) ⊎ ((k : ℕ) × (k < n) × (p k ≡ false))
search_below p zero = inl (λ k l. absurd (omega arith))
search_below p (suc n) = go (search_below p n) (p n) refl
  where
    go : ((k : ℕ) → k < n → p k ≡ true) ⊎ ((k : ℕ) × (k < n) × (p k ≡ false)) → (b : Bool) → p n ≡ b → ((k : ℕ) → k < suc n → p k ≡ true)
        ⊎ ((k : ℕ) × (k < suc n) × (p k ≡ false))
    go (inr found) b e = inr (found.0, omega (arith, found.1), found.2)
    go (inl all) false e = inr (n, omega arith, e)
    go (inl all) true e = inl (λ k l. ⊎_elim (λ same. ap p same ∙ e) (λ other. all k (omega arith)) (cases_eq k n))

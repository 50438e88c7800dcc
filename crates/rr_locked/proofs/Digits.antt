-- Equal sums of powers have equal digits: where there are fewer terms than the base, the sum tells how often each exponent stands in it.
use Rattle.std.proofs.Common.{◌≡◌, ℕ, zero, suc, ◌+◌, ◌*◌, ◌^◌, ◌<◌, ◌≤◌, List, [], ◌∷◌, ◌++◌, length, Bool, cond, refl, sym, ap, inl, inr, ◌∙◌, arith}
use Rattle.std.specs.Prelude.{◌==◌}
use Rattle.std.proofs.lemmas.Bool.Decides.{nat_tests}
use Rattle.std.proofs.Math.Nat.{pow-zero, pow-suc}
use Rattle.std.proofs.Math.Dec.{eqb-zero-suc, eqb-suc-zero, eqb-suc-suc}
use Rattle.std.proofs.lemmas.Bool.{cases_Bool, eq-eqb, eqb-true}
use Rattle.std.proofs.lemmas.Nat.{same_from_place, pow-add}
use Rattle.rr_locked.specs.Sums.{times, weigh, worth}

abbrev once : Bool → ℕ
once t = cond t 1 0

-- the digits above the lowest
lower : List ℕ → List ℕ
lower [] = []
lower (zero ∷ xs) = lower xs
lower (suc x ∷ xs) = x ∷ lower xs

weigh_lower : (b : ℕ) (xs : List ℕ) → weigh b xs ≡ times 0 xs + b * weigh b (lower xs)
unfolding lower
weigh_lower b [] = omega arith
weigh_lower b (zero ∷ xs) = let h = weigh_lower b xs in let p = pow-zero b in omega arith
weigh_lower b (suc x ∷ xs) = let h = weigh_lower b xs in let p = pow-suc b x in let t = ap once (eqb-suc-zero x) in omega arith

times_lower : (c : ℕ) (xs : List ℕ) → times (suc c) xs ≡ times c (lower xs)
unfolding lower
times_lower c [] = refl
times_lower c (zero ∷ xs) = let h = times_lower c xs in let t = ap once (eqb-zero-suc c) in omega arith
times_lower c (suc x ∷ xs) = let h = times_lower c xs in let t = ap once (eqb-suc-suc x c) in omega arith

length_lower : (xs : List ℕ) → length (lower xs) ≤ length xs
unfolding lower
length_lower [] = omega arith
length_lower (zero ∷ xs) = let h = length_lower xs in omega arith
length_lower (suc x ∷ xs) = let h = length_lower xs in omega arith

pub times-le-length : (c : ℕ) (xs : List ℕ) → times c xs ≤ length xs
times-le-length c [] = omega arith
times-le-length c (x ∷ xs) = let h = times-le-length c xs in grind (arith, nat_tests)

-- the sum tells the lowest digit, and the sum of the others
lowest : (b : ℕ) (xs ys : List ℕ) → length xs < b → length ys < b → weigh b xs ≡ weigh b ys → (weigh b (lower xs) ≡ weigh b (lower ys)) × (times 0 xs ≡ times 0 ys)
lowest b xs ys p q e =
    let h = weigh_lower b xs in
    let k = weigh_lower b ys in
    let m = times-le-length 0 xs in
    let n = times-le-length 0 ys in
    same_from_place (weigh b (lower xs)) (times 0 xs) (weigh b (lower ys)) (times 0 ys) b (omega arith) (omega arith) (omega arith)

-- two sums of powers of b, each of fewer than b terms: where they are equal, each exponent stands as often in one as in the other
pub times-same : (b c : ℕ) (xs ys : List ℕ) → length xs < b → length ys < b → weigh b xs ≡ weigh b ys → times c xs ≡ times c ys
times-same b zero xs ys p q e = (lowest b xs ys p q e).1
times-same b (suc c) xs ys p q e =
    let m = length_lower xs in
    let n = length_lower ys in
    times_lower c xs ∙ times-same b c (lower xs) (lower ys) (omega arith) (omega arith) (lowest b xs ys p q e).0 ∙ sym (times_lower c ys)

pow_pow : (b k c : ℕ) → b ^ (k * c) ≡ (b ^ k) ^ c
pow_pow b k zero = let z : k * 0 ≡ 0 = omega arith in ap (λ n. b ^ n) z ∙ pow-zero b ∙ sym (pow-zero (b ^ k))
pow_pow b k (suc c) =
    let m : k * suc c ≡ k * c + k = omega arith in
    ap (λ n. b ^ n) m ∙ pow-add b (k * c) k ∙ ap (λ n. n * b ^ k) (pow_pow b k c) ∙ sym (pow-suc (b ^ k) c)

worth-weigh : (k : ℕ) (xs : List ℕ) → worth k xs ≡ weigh (2 ^ k) xs
worth-weigh k [] = refl
worth-weigh k (x ∷ xs) = let h = worth-weigh k xs in let p = pow_pow 2 k x in omega arith

-- The sum of 2 ^ (k * x) over fewer than 2 ^ k numbers x tells the multiset of these numbers
pub multiset-same : (k : ℕ) (xs ys : List ℕ) → length xs < 2 ^ k → length ys < 2 ^ k → worth k xs ≡ worth k ys → (c : ℕ) → times c xs ≡ times c ys
multiset-same k xs ys p q e c = times-same (2 ^ k) c xs ys p q (sym (worth-weigh k xs) ∙ e ∙ worth-weigh k ys)

pub worth-append : (k : ℕ) (xs ys : List ℕ) → worth k (xs ++ ys) ≡ worth k xs + worth k ys
worth-append k [] ys = omega arith
worth-append k (x ∷ xs) ys = let h = worth-append k xs ys in omega arith

pub times-append : (c : ℕ) (xs ys : List ℕ) → times c (xs ++ ys) ≡ times c xs + times c ys
times-append c [] ys = omega arith
times-append c (x ∷ xs) ys = let h = times-append c xs ys in omega arith

-- ---- equally often: as many
-- the list without the first c
without : ℕ → List ℕ → List ℕ
without c [] = []
without c (x ∷ xs) = cond (x == c) xs (x ∷ without c xs)

times_without : (c d : ℕ) (xs : List ℕ) → 0 < times c xs → times d (without c xs) + cond (c == d) 1 0 ≡ times d xs
unfolding without
times_without c d [] h = absurd (omega arith)
times_without c d (x ∷ xs) h =
    elim (cases_Bool (x == c)) [
      | inl e ↦ rw e (let t = ap (λ n. once (n == d)) (eqb-true x c e) in omega arith)
      | inr e ↦ rw e (let t = ap once e in let k = times_without c d xs (omega arith) in omega arith)
    ]

length_without : (c : ℕ) (xs : List ℕ) → 0 < times c xs → length (without c xs) + 1 ≡ length xs
unfolding without
length_without c [] h = absurd (omega arith)
length_without c (x ∷ xs) h =
    elim (cases_Bool (x == c)) [
      | inl e ↦ rw e (omega arith)
      | inr e ↦ rw e (let t = ap once e in let k = length_without c xs (omega arith) in omega arith)
    ]

pub length-same : (xs ys : List ℕ) → ((c : ℕ) → times c xs ≡ times c ys) → length xs ≡ length ys
length-same [] [] same = refl
length-same [] (y ∷ ys) same = let t = ap once (eq-eqb y y refl) in let k = same y in absurd (omega arith)
length-same (x ∷ xs) ys same =
    let t = ap once (eq-eqb x x refl) in
    let k = same x in
    let there : 0 < times x ys = omega arith in
    let n = length_without x ys there in
    let rest = length-same xs (without x ys) (λ c. let m = times_without x c ys there in let l = same c in omega arith) in
    omega arith

-- How often a slot stands in queues at most, and how many slots are used at most: for callers that bound their own counts.
use Rattle.std.proofs.Common.{◌≡◌, ℕ, suc, zero, ◌+◌, ◌*◌, ◌≤◌, true, false, List, [], ◌∷◌, cond, eqb, length, take, get_or, All, refl, ap, ⊎_elim, arith}
use Rattle.std.specs.Prelude.{sum, flat_map, ◌==◌}
use Rattle.std.proofs.Math.Nat.{mul-le-mul_right}
use Rattle.std.proofs.Math.Seq.{take-length}
use Rattle.std.proofs.lemmas.Bool.{cases_lt, ne_eqb}
use Rattle.std.proofs.lemmas.List.{take_more}
use Rattle.std.proofs.lemmas.List.Elements.{All-head, All-tail}
use Rattle.std.proofs.lemmas.List.Sums.{sum_by_push}
use Rattle.rr_sender.specs.Senders.{Messages, times, all_entries, uses, used_below, used_count}
use Rattle.rr_sender.proofs.EntryLaws.{mark, mark-other, times-append}

mark-le : (x i : ℕ) → mark x i ≤ 1
mark-le x i = elim (eqb x i) as (λ b. cond b 1 0 ≤ 1) [ true ↦ omega arith | false ↦ omega arith ]

times-le-length : (i : ℕ) (xs : List ℕ) → times i xs ≤ length xs
times-le-length i [] = omega arith
times-le-length i (x ∷ xs) = omega (arith, mark-le x i, times-le-length i xs)

-- a slot stands in queues at most as often as they have room
row-le : (i capacity : ℕ) (row : List (List ℕ)) → All (λ queue. length queue ≤ capacity) row
    → times i (flat_map (λ queue. queue) row) ≤ length row * capacity
row-le i capacity [] short = omega arith
row-le i capacity (queue ∷ row) short = omega (
  arith,
  times-append i queue (flat_map (λ (q : List ℕ). q) row),
  times-le-length i queue,
  All-head (λ (q : List ℕ). length q ≤ capacity) queue row short,
  row-le i capacity row (All-tail (λ (q : List ℕ). length q ≤ capacity) queue row short),
)

pub times-le_room : (i channels capacity : ℕ) (queues : List (List (List ℕ))) → All (λ row. length row ≤ channels) queues
    → All (λ row. All (λ queue. length queue ≤ capacity) row) queues
    → times i (all_entries queues) ≤ length queues * (channels * capacity)
times-le_room i channels capacity [] rows short = omega arith
times-le_room i channels capacity (row ∷ queues) rows short = omega (
  arith,
  times-append i (flat_map (λ (q : List ℕ). q) row) (all_entries queues),
  row-le i capacity row (All-head (λ r. All (λ (q : List ℕ). length q ≤ capacity) r) row queues short),
  mul-le-mul_right capacity (All-head (λ (r : List (List ℕ)). length r ≤ channels) row queues rows),
  times-le_room i channels capacity queues (All-tail (λ (r : List (List ℕ)). length r ≤ channels) row queues rows)
      (All-tail (λ r. All (λ (q : List ℕ). length q ≤ capacity) r) row queues short),
)

-- the sum of what a function says of the numbers below n
abbrev below : (ℕ → ℕ) → ℕ → ℕ
below f zero = 0
below f (suc n) = f n + below f n

below_mark-past : (x n : ℕ) → n ≤ x → below (mark x) n ≡ 0
below_mark-past x zero h = refl
below_mark-past x (suc n) h = omega (arith, mark-other x n (λ e. omega (arith, e, h)), below_mark-past x n (omega arith))

below_mark-le : (x n : ℕ) → below (mark x) n ≤ 1
below_mark-le x zero = omega arith
below_mark-le x (suc n) = ⊎_elim
    (λ l. omega (arith, mark-other x n (λ e. omega (arith, e, l)), below_mark-le x n))
    (λ l. omega (arith, mark-le x n, below_mark-past x n l))
    (cases_lt x n)

below-sum : (f g h : ℕ → ℕ) (n : ℕ) → ((k : ℕ) → f k ≤ g k + h k) → below f n ≤ below g n + below h n
below-sum f g h zero le = omega arith
below-sum f g h (suc n) le = omega (arith, le n, below-sum f g h n le)

below-zero : (n : ℕ) → below (λ _. 0) n ≡ 0
below-zero zero = refl
below-zero (suc n) = omega (arith, below-zero n)

below_times-le : (n : ℕ) (xs : List ℕ) → below (λ k. times k xs) n ≤ length xs
below_times-le n [] = omega (arith, below-zero n)
below_times-le n (x ∷ xs) = omega (
  arith,
  below-sum (λ k. times k (x ∷ xs)) (mark x) (λ k. times k xs) n (λ k. omega arith),
  below_mark-le x n,
  below_times-le n xs,
)

below_at : (xs : List ℕ) (n : ℕ) → n ≤ length xs → below (λ k. get_or xs k 0) n ≡ sum (take n xs)
below_at xs zero h = refl
below_at xs (suc n) h =
    let more : n + 1 ≡ suc n = omega arith in
    omega (
      arith,
      below_at xs n (omega arith),
      ap sum (take_more xs n 0 (omega arith)),
      sum_by_push (λ x. x) (take n xs) (get_or xs n 0),
      ap (λ k. sum (take k xs)) more,
    )

is_used-le : (n : ℕ) → cond (n == 0) 0 1 ≤ n
is_used-le zero = omega arith
is_used-le (suc n) = omega (arith, ap {B = ℕ} (λ b. cond b 0 1) (ne_eqb (suc n) 0 (λ e. omega (arith, e))))

module _ {T N H : Type 0} (m : Messages T N H) where
  used_below-is : (n : ℕ) → used_below m n ≡ below (λ k. cond (uses m k == 0) 0 1) n
  used_below-is zero = refl
  used_below-is (suc n) = omega (arith, used_below-is n)

  -- no more slots are used than there are handles and entries
  pub used-le : used_count m ≤ sum m.held + length (all_entries m.queues)
  used-le = omega (
    arith,
    used_below-is (length m.held),
    below-sum (λ k. cond (uses m k == 0) 0 1) (λ k. get_or m.held k 0) (λ k. times k (all_entries m.queues)) (length m.held)
        (λ k. is_used-le (uses m k)),
    below_at m.held (length m.held) (omega arith),
    ap sum (take-length m.held),
    below_times-le (length m.held) (all_entries m.queues),
  )

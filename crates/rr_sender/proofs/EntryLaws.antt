-- How often a slot stands in queues.
use Rattle.std.proofs.Common.{◌≡◌, ℕ, suc, zero, ◌+◌, ◌<◌, ◌≤◌, List, [], ◌∷◌, ◌++◌, cond, eqb, length, drop, replicate, get_or, refl, ap, ◌∙◌, arith}
use Rattle.std.specs.Prelude.{slice_set, slice_get, sum_by, flat_map, Some, None, ◌≢◌}
use Rattle.std.proofs.lemmas.Bool.{eq-eqb, ne_eqb}
use Rattle.std.proofs.lemmas.List.{length-set, get_or-set_same, set-get_or}
use Rattle.std.proofs.lemmas.List.Sums.{sum_by-cons, sum_by-set}
use Rattle.rr_sender.specs.Senders.{times, all_entries, at_two, set_two}

-- 1 for a slot itself, 0 for another
abbrev pub mark : ℕ → ℕ → ℕ
mark x i = cond (eqb x i) 1 0

pub mark-same : (i : ℕ) → mark i i ≡ 1
mark-same i = ap (λ b. cond b 1 0) (eq-eqb i i refl)

pub mark-other : (x i : ℕ) → x ≢ i → mark x i ≡ 0
mark-other x i n = ap (λ b. cond b 1 0) (ne_eqb x i n)

pub times-append : (i : ℕ) (xs ys : List ℕ) → times i (xs ++ ys) ≡ times i xs + times i ys
times-append i [] ys = omega arith
times-append i (x ∷ xs) ys = omega (arith, times-append i xs ys)

pub times-push : (i : ℕ) (xs : List ℕ) (x : ℕ) → times i (xs ++ x ∷ []) ≡ times i xs + mark x i
times-push i xs x = omega (arith, times-append i xs (x ∷ []))

-- the first entry, and the rest
pub times-first : (i x : ℕ) (xs : List ℕ) → slice_get xs 0 ≡ Some x → times i (drop 1 xs) + mark x i ≡ times i xs
times-first i x [] h = absurd (let g : None ≡ Some x = h in cc)
times-first i x (y ∷ xs) h = let same : y ≡ x = cc in omega (arith, ap (λ z. mark z i) same)

times-flat_map : {X : Type 0} (i : ℕ) (f : X → List ℕ) (xs : List X) → times i (flat_map f xs) ≡ sum_by (λ x. times i (f x)) xs
times-flat_map i f [] = refl
times-flat_map i f (x ∷ xs) = omega (
  arith,
  times-append i (f x) (flat_map f xs),
  times-flat_map i f xs,
  sum_by-cons (λ y. times i (f y)) x xs,
)

-- how often a slot stands in the queues of one receiver
abbrev in_row : ℕ → List (List ℕ) → ℕ
in_row i row = times i (flat_map (λ queue. queue) row)

in_row-set : (i : ℕ) (row : List (List ℕ)) (k : ℕ) (queue : List ℕ) → k < length row
    → in_row i (slice_set row k queue) + times i (get_or row k []) ≡ in_row i row + times i queue
in_row-set i row k queue inside =
    omega (
      arith,
      times-flat_map i (λ q. q) row,
      times-flat_map i (λ q. q) (slice_set row k queue),
      sum_by-set (times i) row k queue [] inside,
    )

module _ (rows : List (List (List ℕ))) (receiver channel : ℕ) (at : receiver < length rows)
    (inside : channel < length (get_or rows receiver [])) where
  -- what the entries of a queue count among all
  pub times-set_two : (i : ℕ) (queue : List ℕ) → times i (all_entries (set_two rows receiver channel queue)) + times i
      (at_two [] rows receiver channel) ≡ times i (all_entries rows) + times i queue
  times-set_two i queue = omega (
    arith,
    times-flat_map i (flat_map (λ (q : List ℕ). q)) rows,
    times-flat_map i (flat_map (λ (q : List ℕ). q)) (set_two rows receiver channel queue),
    sum_by-set (in_row i) rows receiver (slice_set (get_or rows receiver []) channel queue) [] at,
    in_row-set i (get_or rows receiver []) channel queue inside,
  )

  pub times-at_two : (i : ℕ) → times i (at_two [] rows receiver channel) ≤ times i (all_entries rows)
  times-at_two i = omega (arith, times-set_two i [])

module _ {X : Type 0} (d : X) (rows : List (List X)) (i j : ℕ) where
  pub at_two-set_two : i < length rows → j < length (get_or rows i []) → (x : X) → at_two d (set_two rows i j x) i j ≡ x
  at_two-set_two at inside x = ap (λ row. get_or row j d) (get_or-set_same rows i (slice_set (get_or rows i []) j x) [] at)
      ∙ get_or-set_same (get_or rows i []) j x d inside

  -- an element set to itself
  pub set_two-itself : set_two rows i j (at_two d rows i j) ≡ rows
  set_two-itself = ap (slice_set rows i) (set-get_or (get_or rows i []) j d) ∙ set-get_or rows i []

pub length-set_two : {X : Type 0} (rows : List (List X)) (i j : ℕ) (x : X) → length (set_two rows i j x) ≡ length rows
length-set_two rows i j x = length-set rows i (slice_set (get_or rows i []) j x)

-- queues with no entry
times-empty_row : (i n : ℕ) → in_row i (replicate n []) ≡ 0
times-empty_row i zero = refl
times-empty_row i (suc n) = times-empty_row i n

pub times-empty : (i n channels : ℕ) → times i (all_entries (replicate n (replicate channels []))) ≡ 0
times-empty i zero channels = refl
times-empty i (suc n) channels = omega (
  arith,
  times-append i
      (flat_map (λ (q : List ℕ). q) (replicate channels [])) (all_entries (replicate n (replicate channels []))),
  times-empty_row i channels,
  times-empty i n channels,
)

-- A stream that counts, with one more at its end, and without the first.
use Rattle.std.proofs.Common.{◌≡◌, ◌<◌, ◌+◌, ◌-◌, ℕ, zero, suc, [], ◌∷◌, ◌++◌, map, ap, ◌∙◌, arith}
use Rattle.std.specs.List.{range_with_len}
use Rattle.std.proofs.lemmas.List.{map-append}
use Rattle.rr_callers.specs.Singles.{singles}

-- numbers from one on, with one more
pub range_more : (first count : ℕ) → range_with_len first (suc count) ≡ range_with_len first count ++ (first + count) ∷ []
range_more first zero = ap (λ n. n ∷ []) (omega arith)
range_more first (suc count) =
    ap (λ xs. first ∷ xs) (range_more (first + 1) count
    ∙ ap (λ n. range_with_len (first + 1) count ++ n ∷ []) (omega arith))

pub range_next : (count : ℕ) → range_with_len 0 (count + 1) ≡ range_with_len 0 count ++ count ∷ []
range_next count =
    ap (range_with_len 0) (let e : count + 1 ≡ suc count = omega arith in e) ∙ range_more 0 count
    ∙ ap (λ n. range_with_len 0 count ++ n ∷ []) (let e : 0 + count ≡ count = omega arith in e)

pub singles_next : (count : ℕ) → singles 0 (count + 1) ≡ singles 0 count ++ (count ∷ []) ∷ []
singles_next count =
    ap (map (λ value. value ∷ [])) (range_next count) ∙ map-append (λ value. value ∷ []) (range_with_len 0 count) (count ∷ [])

-- of those that remain, the first
pub singles_first : (taken count : ℕ) → taken < count → singles taken (count - taken) ≡ (taken ∷ []) ∷ singles (taken + 1) (count - (taken + 1))
singles_first taken count below =
    ap (singles taken) (let e : count - taken ≡ suc (count - (taken + 1)) = omega arith in e)

-- Two lists of which a relation holds place by place.
use Rattle.std.proofs.Common.{◌≡◌, ◌<◌, ◌+◌, ℕ, suc, List, [], ◌∷◌, ◌++◌, ap, arith, length, slice_index_or, subst, sym, take, ◌∙◌}
use Rattle.std.specs.List.{AllZip}
use Rattle.std.proofs.Math.Seq.{take-suc}

-- one more of each
pub zip_more : {A B : Type 0} (R : A → B → Type 0) (xs : List A) (ys : List B) (x : A) (y : B) → AllZip R xs ys → R x y
    → AllZip R (xs ++ x ∷ []) (ys ++ y ∷ [])
zip_more R [] [] x y each holds = (holds, tt)
zip_more R [] (z ∷ ys) x y each holds = absurd each
zip_more R (w ∷ xs) [] x y each holds = absurd each
zip_more R (w ∷ xs) (z ∷ ys) x y each holds = (each.0, zip_more R xs ys x y each.1 holds)

-- the next of a list is answered too
pub zip_next : {A B : Type 0} (R : A → B → Type 0) (xs : List A) (i : ℕ) (x : A) (ys : List B) (y : B) → i < length xs
    → AllZip R (take i xs) ys → x ≡ slice_index_or xs i x → R x y → AllZip R (take (i + 1) xs) (ys ++ y ∷ [])
zip_next R xs i x ys y within each is holds =
    let next : i + 1 ≡ suc i = omega arith in
    let all : take (i + 1) xs ≡ take i xs ++ x ∷ [] = ap (λ n. take n xs) next ∙ take-suc xs i x within ∙ ap (λ z. take i xs ++ z ∷ []) (sym is) in
    subst (λ l. AllZip R l (ys ++ y ∷ [])) (sym all) (zip_more R (take i xs) ys x y each holds)

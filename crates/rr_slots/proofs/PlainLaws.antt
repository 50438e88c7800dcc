-- A part of a list at its front, that is written through a slice.
use Rattle.std.proofs.Common.{◌≡◌, ◌≤◌, ◌<◌, ℕ, zero, suc, List, [], ◌∷◌, ◌++◌, length, take, drop, refl, sym, ap, ◌∙◌, arith, Some}
use Rattle.std.specs.List.{refill, slice_get, slice_index_or}
use Rattle.rr_slots.specs.Elements.{option_elements}
use Rattle.std.proofs.lemmas.List.{length-append, length-drop, length-take-le, take-append-le, take-take}

module _ {X : Type 0} where
  -- what lies past the front has no part in it
  front : (n : ℕ) (xs ws : List X) → take n (ws ++ drop (length ws) xs) ≡ take n (ws ++ drop (length ws) (take n xs))
  front zero xs ws = refl
  front (suc n) xs [] = sym (take-take (suc n) (suc n) xs (omega arith))
  front (suc n) [] (w ∷ ws) = refl
  front (suc n) (x ∷ xs) (w ∷ ws) = ap (λ rest. w ∷ rest) (front n xs ws)

  -- a list that is written over from its start is as long, or longer
  longer : (xs ws : List X) → length xs ≤ length (ws ++ drop (length ws) xs)
  longer xs ws = omega (arith, length-append ws (drop (length ws) xs), length-drop (length ws) xs)

  -- the front of a list, after it was written over from its start
  pub front_refilled : (n m : ℕ) (xs ws : List X) → n ≤ m → m ≡ length xs → (ys : List X)
      → take n (take m ((ws ++ drop (length ws) xs) ++ ys)) ≡ refill (length (take n xs)) (take n xs) ws
  front_refilled n m xs ws within same ys =
      take-take n m ((ws ++ drop (length ws) xs) ++ ys) within
      ∙ take-append-le n (ws ++ drop (length ws) xs) ys (omega (arith, within, same, longer xs ws))
      ∙ front n xs ws
      ∙ ap (λ k. take k (ws ++ drop (length ws) (take n xs))) (sym (length-take-le n xs (omega (arith, within, same))))

  -- what stands at an index of the front
  pub front_get : (n : ℕ) (xs : List X) (i : ℕ) (x : X) → i < n → n ≤ length xs → x ≡ slice_index_or xs i x → slice_get (take n xs) i ≡ Some x
  front_get zero xs i x below within is = absurd (omega (arith, below))
  front_get (suc n) [] i x below within is = absurd (omega (arith, within))
  front_get (suc n) (y ∷ xs) zero x below within is = ap Some (sym is)
  front_get (suc n) (y ∷ xs) (suc i) x below within is = front_get n xs i x (omega (arith, below)) (omega (arith, within)) is

  -- a list of one element is what its first element is as an option
  pub only_element : (xs : List X) → length xs ≡ 1 → option_elements (slice_get xs 0) ≡ xs
  only_element [] one = absurd (omega (arith, one))
  only_element (x ∷ []) one = refl
  only_element (x ∷ y ∷ zs) one = absurd (omega (arith, one))

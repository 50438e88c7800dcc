-- What occurs in a history, and what lists are made of it, as it grows at the end.
use Rattle.std.proofs.Common.{◌≡◌, ℕ, ◌<◌, Bool, true, false, cond, ◌&&◌, List, [], ◌∷◌, ◌++◌, drop, refl, ap, ◌∙◌, ⊎_elim, inl, inr, suc, zero}
use Rattle.std.specs.Prelude.{◌||◌, filter}
use Rattle.std.specs.List.{AllByRecursion, list_any}
use Rattle.rr_protocol.specs.AnswerRule.{Event, IsSubsequence, occur_in_order}
use Rattle.rr_table.proofs.ListFacts.{or_true}

-- the two truth values are different
pub false_is_true : false ≡ true → ⊥
false_is_true e = absurd (cc)

-- one of two tests passes still where each passes at least as often
either_grows : (a b c d e : Bool) → (b ≡ true → d ≡ true) → (c ≡ true → e ≡ true) → ((a && b) || c) ≡ true → ((a && d) || e) ≡ true
either_grows true true c d e f g h = ap (λ x. x || e) (f refl)
either_grows true false c d e f g h = or_true d e (g h)
either_grows false b c d e f g h = g h

module _ {T H K : Type 0} where
  -- what occurred in a history occurred in a longer one
  pub occurs_later : (tests : List (Event T H K → Bool)) (history : List (Event T H K)) (event : Event T H K)
      → occur_in_order tests history ≡ true → occur_in_order tests (history ++ event ∷ []) ≡ true
  occurs_later [] history event h = refl
  occurs_later (test ∷ tests) [] event h = absurd (false_is_true h)
  occurs_later (test ∷ tests) (first ∷ history) event h =
      either_grows (test first) _ _ _ _ (occurs_later tests history event) (occurs_later (test ∷ tests) history event) h

  -- and so does an event after it
  pub occurs_then : (tests : List (Event T H K → Bool)) (test : Event T H K → Bool) (history : List (Event T H K)) (event : Event T H K)
      → occur_in_order tests history ≡ true → test event ≡ true →
      occur_in_order (tests ++ test ∷ []) (history ++ event ∷ []) ≡ true
  occurs_then [] test [] event h t = ap (λ b. (b && true) || false) t
  occurs_then [] test (first ∷ history) event h t = or_true (test first && true) _ (occurs_then [] test history event refl t)
  occurs_then (other ∷ tests) test [] event h t = absurd (false_is_true h)
  occurs_then (other ∷ tests) test (first ∷ history) event h t =
      either_grows (other first) _ _ _ _ (λ e. occurs_then tests test history event e t)
      (λ e. occurs_then (other ∷ tests) test history event e t) h

  -- one event that is there occurs
  pub occurs_alone : (test : Event T H K → Bool) (history : List (Event T H K)) → list_any test history ≡ true
      → occur_in_order (test ∷ []) history ≡ true
  occurs_alone test [] h = absurd (false_is_true h)
  occurs_alone test (first ∷ history) h = go (occurs_alone test history) (test first) h
    where
      go : (list_any test history ≡ true → occur_in_order (test ∷ []) history ≡ true) → (b : Bool) → (b || list_any test history) ≡ true
          → ((b && true) || occur_in_order (test ∷ []) history) ≡ true
      go rest true h = refl
      go rest false h = rest h

-- tests that agree on small numbers choose the same of them
pub filter_agree : (f g : ℕ → Bool) (n : ℕ) → ((k : ℕ) → k < n → f k ≡ g k) → (xs : List ℕ) → AllByRecursion (λ k. k < n) xs
    → filter f xs ≡ filter g xs
filter_agree f g n same [] all = refl
filter_agree f g n same (x ∷ xs) all =
    ap (λ b. cond b (x ∷ filter f xs) (filter f xs)) (same x all.0) ∙ ap (λ ys. cond (g x) (x ∷ ys) ys) (filter_agree f g n same xs all.1)

-- tests that agree on all elements find alike
pub any_agree : (f g : ℕ → Bool) (n : ℕ) → ((k : ℕ) → k < n → f k ≡ g k) → (xs : List ℕ) → AllByRecursion (λ k. k < n) xs
    → list_any f xs ≡ list_any g xs
any_agree f g n same [] all = refl
any_agree f g n same (x ∷ xs) all = ap (λ b. b || list_any f xs) (same x all.0) ∙ ap (λ b. g x || b) (any_agree f g n same xs all.1)

-- a fact of each element of two lists holds in both one after the other
pub all_joined : {X : Type 0} (P : X → Type 0) (xs ys : List X) → AllByRecursion P xs → AllByRecursion P ys → AllByRecursion P (xs ++ ys)
all_joined P [] ys a b = b
all_joined P (x ∷ xs) ys a b = (a.0, all_joined P xs ys a.1 b)

-- each list is a part of itself
pub subsequence_itself : (xs : List ℕ) → IsSubsequence xs xs
subsequence_itself [] = tt
subsequence_itself (x ∷ xs) = inl (refl, subsequence_itself xs)

-- a part of a list is one of a longer list
pub subsequence_longer : (xs ys zs : List ℕ) → IsSubsequence xs ys → IsSubsequence xs (ys ++ zs)
subsequence_longer [] ys zs h = tt
subsequence_longer (x ∷ xs) [] zs h = absurd h
subsequence_longer (x ∷ xs) (y ∷ ys) zs h = ⊎_elim
    (λ here. inl (here.0, subsequence_longer xs ys zs here.1))
    (λ later. inr (subsequence_longer (x ∷ xs) ys zs later))
    h

-- the same element after both
pub subsequence_then : (xs ys : List ℕ) (k : ℕ) → IsSubsequence xs ys → IsSubsequence (xs ++ k ∷ []) (ys ++ k ∷ [])
subsequence_then [] [] k h = inl (refl, tt)
subsequence_then [] (y ∷ ys) k h = inr (subsequence_then [] ys k tt)
subsequence_then (x ∷ xs) [] k h = absurd h
subsequence_then (x ∷ xs) (y ∷ ys) k h = ⊎_elim
    (λ here. inl (here.0, subsequence_then xs ys k here.1))
    (λ later. inr (subsequence_then (x ∷ xs) ys k later))
    h

-- a part without its first element
subsequence_rest : (x : ℕ) (xs ys : List ℕ) → IsSubsequence (x ∷ xs) ys → IsSubsequence xs ys
subsequence_rest x xs [] h = absurd h
subsequence_rest x [] (y ∷ ys) h = tt
subsequence_rest x (z ∷ xs) (y ∷ ys) h = ⊎_elim
    (λ here. inr here.1)
    (λ later. inr (subsequence_rest x (z ∷ xs) ys later))
    h

-- a part of a part is a part
pub subsequence_of : (xs ys zs : List ℕ) → IsSubsequence xs ys → IsSubsequence ys zs → IsSubsequence xs zs
subsequence_of [] ys zs h g = tt
subsequence_of (x ∷ xs) [] zs h g = absurd h
subsequence_of (x ∷ xs) (y ∷ ys) [] h g = absurd g
subsequence_of (x ∷ xs) (y ∷ ys) (z ∷ zs) h g = ⊎_elim
    (λ there. ⊎_elim
    (λ here. inl (here.0 ∙ there.0, subsequence_of xs ys zs here.1 there.1))
    (λ later. inr (subsequence_of (x ∷ xs) ys zs later there.1))
    h)
    (λ away. inr (subsequence_of (x ∷ xs) (y ∷ ys) zs h away))
    g

-- without its first elements, after the same list
pub subsequence_dropped : (before : List ℕ) (n : ℕ) (xs : List ℕ) → IsSubsequence (before ++ drop n xs) (before ++ xs)
subsequence_dropped (b ∷ before) n xs = inl (refl, subsequence_dropped before n xs)
subsequence_dropped [] zero xs = subsequence_itself xs
subsequence_dropped [] (suc n) [] = tt
subsequence_dropped [] (suc n) (x ∷ xs) = away (drop n xs) xs x (subsequence_dropped [] n xs)
  where
    away : (ys xs : List ℕ) (x : ℕ) → IsSubsequence ys xs → IsSubsequence ys (x ∷ xs)
    away [] xs x h = tt
    away (y ∷ ys) xs x h = inr h

-- nor is the rest needed
pub subsequence_front : (xs ys zs : List ℕ) → IsSubsequence (xs ++ ys) zs → IsSubsequence xs zs
subsequence_front [] ys zs h = tt
subsequence_front (x ∷ xs) ys [] h = absurd h
subsequence_front (x ∷ xs) ys (z ∷ zs) h = ⊎_elim
    (λ here. inl (here.0, subsequence_front xs ys zs here.1))
    (λ later. inr (subsequence_front (x ∷ xs) ys zs later))
    h

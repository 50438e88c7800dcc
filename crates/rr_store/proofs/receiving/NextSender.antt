-- Senders are looked through one after another.
use Rattle.std.proofs.Common.{◌≡◌, ◌<◌, ◌≤◌, ◌+◌, ℕ, Bool, true, false, List, [], ◌∷◌, length, refl, sym, ap, ◌∙◌, ⊎_elim, arith}
use Rattle.std.proofs.lemmas.Bool.{cases_eq, cases_lt, false≢true}
use Rattle.rr_store.specs.Parts.{Sender}
use Rattle.rr_store.specs.Receiving.{queue_from, borrowed_from, IsLookedThrough}

module _ {T N H : Type 0} (senders : List (Sender T N H)) (receiver channel most from : ℕ) where
  -- before the first
  pub looked_at_none : IsLookedThrough senders receiver channel most from from false
  looked_at_none = record {
    passed = λ l f h. absurd (omega (arith, f, h));
    clear = λ _ l f h. absurd (omega (arith, f, h));
    at_limit = λ e. absurd (false≢true e);
  }

  -- one more, or one of those before
  last_or_before : {Z : Type 0} (n l : ℕ) → l < n + 1 → (l < n → Z) → (l ≡ n → Z) → Z
  last_or_before n l h before last = ⊎_elim (λ e. last e) (λ e. before (below l n h e)) (cases_eq l n)
    where
      below : (l n : ℕ) → l < n + 1 → (l ≡ n → ⊥) → l < n
      below l n h e = ⊎_elim (λ g. g) (λ g. absurd (e (omega (arith, h, g)))) (cases_lt l n)

  -- the next one has no entry
  pub looked_at_empty : (n : ℕ) (b : Bool) → IsLookedThrough senders receiver channel most from n b → queue_from senders receiver channel n ≡ []
      → IsLookedThrough senders receiver channel most from (n + 1) b
  looked_at_empty n b so none = record {
    passed = λ l f h room. last_or_before n l h (λ g. so.passed l f g room) (λ e. ap (queue_from senders receiver channel) e ∙ none);
    clear = λ e l f h. last_or_before n l h (λ g. so.clear e l f g) (λ is. ap (queue_from senders receiver channel) is ∙ none);
    at_limit = λ e. let r = so.at_limit e in (r.0, omega (arith, r.1), r.2, r.3, r.4);
  }

  -- the next one has no room
  pub looked_at_limit : (n : ℕ) (b : Bool) → IsLookedThrough senders receiver channel most from n b → n < length senders
      → most ≤ borrowed_from senders receiver channel n → (queue_from senders receiver channel n ≡ [] → ⊥)
      → IsLookedThrough senders receiver channel most from (n + 1) true
  looked_at_limit n b so there full some = record {
    passed = λ l f h room. last_or_before n l h (λ g. so.passed l f g room)
        (λ e. absurd (omega (arith, full, room, ap (borrowed_from senders receiver channel) e)));
    clear = λ e. absurd (false≢true (sym e));
    at_limit = λ _. (n, omega arith, there, full, some);
  }

-- a list without elements
pub empty_of : {X : Type 0} (xs : List X) → (0 < length xs → ⊥) → xs ≡ []
empty_of [] h = refl
empty_of (x ∷ xs) h = absurd (h (omega arith))

pub some_of : {X : Type 0} (xs : List X) → 0 < length xs → xs ≡ [] → ⊥
some_of xs h e = omega (arith, h, ap length e)

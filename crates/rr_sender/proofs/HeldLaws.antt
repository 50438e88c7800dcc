-- How many hold each slot beside the queues.
use Rattle.std.proofs.Common.{◌≡◌, ℕ, suc, zero, ◌+◌, ◌-◌, ◌<◌, List, [], ◌∷◌, length, replicate, get_or, refl, sym, ap, ◌∙◌, ⊎_elim, arith}
use Rattle.std.specs.Prelude.{slice_set, ◌≢◌}
use Rattle.std.proofs.lemmas.Bool.{cases_eq}
use Rattle.std.proofs.lemmas.List.{length-set, get_or-set_same, get_or-set_other}
use Rattle.std.proofs.lemmas.Grind.{same_number_lists}
use Rattle.rr_sender.specs.Senders.{times, all_entries}
use Rattle.rr_sender.specs.Parts.{held_from, held_of}

length-held_from : (i : ℕ) (holders entries : List ℕ) → length (held_from i holders entries) ≡ length holders
length-held_from i [] entries = refl
length-held_from i (h ∷ holders) entries = omega (arith, length-held_from (i + 1) holders entries)

held_from_at : (i : ℕ) (holders entries : List ℕ) (k : ℕ) → get_or (held_from i holders entries) k 0 ≡ get_or holders k 0 - times
    (i + k) entries
held_from_at i [] entries k = omega arith
held_from_at i (h ∷ holders) entries zero = let here : i + 0 ≡ i = omega arith in ap (λ j. h - times j entries) (sym here)
held_from_at i (h ∷ holders) entries (suc k) = let next : (i + 1) + k ≡ i + suc k = omega arith in held_from_at (i + 1) holders entries k
    ∙ ap (λ j. get_or holders k 0 - times j entries) next

pub length-held_of : (holders : List ℕ) (queues : List (List (List ℕ))) → length (held_of holders queues) ≡ length holders
length-held_of holders queues = length-held_from 0 holders (all_entries queues)

pub held_at : (holders : List ℕ) (queues : List (List (List ℕ))) (k : ℕ)
    → get_or (held_of holders queues) k 0 ≡ get_or holders k 0 - times k (all_entries queues)
held_at holders queues k = held_from_at 0 holders (all_entries queues) k
    ∙ (let here : 0 + k ≡ k = omega arith in ap (λ j. get_or holders k 0 - times j (all_entries queues)) here)

module _ (holders after : List ℕ) (queues later : List (List (List ℕ))) (len : length after ≡ length holders) where
  -- nothing changed beside the queues
  pub held_stays : ((k : ℕ) → get_or after k 0 - times k (all_entries later) ≡ get_or holders k 0 - times k (all_entries queues))
      → held_of after later ≡ held_of holders queues
  held_stays same = same_number_lists (held_of after later) (held_of holders queues)
      (omega (arith, length-held_of after later, length-held_of holders queues, len))
      (λ k h. held_at after later k ∙ same k ∙ sym (held_at holders queues k))

  -- one slot is held by n
  pub held_becomes : (slot n : ℕ) → slot < length holders → get_or after slot 0 - times slot (all_entries later) ≡ n
      → ((k : ℕ) → k ≢ slot → get_or after k 0 - times k (all_entries later) ≡ get_or holders k 0 - times k (all_entries queues))
      → held_of after later ≡ slice_set (held_of holders queues) slot n
  held_becomes slot n inside here other = same_number_lists (held_of after later) (slice_set (held_of holders queues) slot n)
      (omega (arith, length-held_of after later, length-held_of holders queues, length-set (held_of holders queues) slot n, len))
      (λ k h. ⊎_elim
      (λ e. held_at after later k ∙ ap (λ j. get_or after j 0 - times j (all_entries later)) e ∙ here
      ∙ sym (ap (λ j. get_or (slice_set (held_of holders queues) slot n) j 0) e
      ∙ get_or-set_same (held_of holders queues) slot n 0 (omega (arith, inside, length-held_of holders queues))))
      (λ e. held_at after later k ∙ other k e ∙ sym (held_at holders queues k)
      ∙ sym (get_or-set_other (held_of holders queues) slot k n 0 e))
      (cases_eq k slot))

pub held-free : (slots : ℕ) (queues : List (List (List ℕ))) → held_of (replicate slots 0) queues ≡ replicate slots 0
held-free slots queues = none 0 slots where
  none : (i n : ℕ) → held_from i (replicate n 0) (all_entries queues) ≡ replicate n 0
  none i zero = refl
  none i (suc n) = let nothing : 0 - times i (all_entries queues) ≡ 0 = omega arith in λ j. nothing j ∷ none (i + 1) n j

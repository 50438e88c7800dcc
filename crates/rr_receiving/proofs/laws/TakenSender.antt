-- A sender from which the oldest entry of a queue was taken.
use Rattle.std.proofs.Common.{◌≡◌, ◌<◌, ◌≤◌, ◌+◌, ℕ, cond, List, [], ◌∷◌, Some, length, get_or, refl, sym, ap, ◌∙◌, ⊎_elim, arith}
use Rattle.std.specs.Prelude.{◌==◌, slice_get, slice_index, drop}
use Rattle.std.proofs.lemmas.Bool.{cases_eq, eq-eqb, ne_eqb}
use Rattle.std.proofs.lemmas.List.{get_or-set_same, get_or-set_other, length-set}
use Rattle.rr_sender.specs.Senders.{Messages, times, all_entries, at_two, set_two, queue_at, borrowed_at, uses, taken}
use Rattle.rr_sender.proofs.EntryLaws.{times-set_two, times-first, at_two-set_two, length-set_two}
use Rattle.rr_store.specs.Sound.{IsShaped}
use Rattle.rr_store.proofs.base.lists.SetTwo.{other_row, other_column, row_length}

-- a list without its first element is no longer
pub length-rest : {X : Type 0} (xs : List X) → length (drop 1 xs) ≤ length xs
length-rest [] = omega arith
length-rest (x ∷ xs) = omega arith

module _ {T N H : Type 0} {receivers channels capacity : ℕ} (m : Messages T N H) (shaped : IsShaped receivers channels capacity m)
    (receiver channel slot : ℕ) (at : receiver < receivers) (inside : channel < channels)
    (first : slice_get (queue_at m receiver channel) 0 ≡ Some slot) where
  abbrev rest : List ℕ
  rest = drop 1 (queue_at m receiver channel)

  abbrev new : Messages T N H
  new = taken m receiver channel slot rest

  there : receiver < length m.queues
  there = omega (arith, at, shaped.queues)

  in_queues : channel < length (get_or m.queues receiver [])
  in_queues = omega (arith, inside, shaped.queue_channels receiver at)

  in_borrowed : channel < length (get_or m.borrowed receiver [])
  in_borrowed = omega (arith, inside, shaped.borrowed_channels receiver at)

  -- the entry
  pub entry : (i : ℕ) → times i rest + cond (slot == i) 1 0 ≡ times i (queue_at m receiver channel)
  entry i = times-first i slot (queue_at m receiver channel) first

  pub queue_here : queue_at new receiver channel ≡ rest
  queue_here = at_two-set_two [] m.queues receiver channel there in_queues rest

  pub queue_there : (r c : ℕ) → (r ≡ receiver → c ≡ channel → ⊥) → queue_at new r c ≡ queue_at m r c
  queue_there r c n =
      ⊎_elim
      (λ e. ap (λ r. at_two [] (set_two m.queues receiver channel rest) r c) e
      ∙ other_column m.queues receiver channel rest [] there c (λ f. n e f) ∙ sym (ap (λ r. queue_at m r c) e))
      (λ far. other_row m.queues receiver channel rest [] r c far)
      (cases_eq r receiver)

  pub borrowed_here : borrowed_at new receiver channel ≡ borrowed_at m receiver channel + 1
  borrowed_here = at_two-set_two 0 m.borrowed receiver channel (omega (arith, at, shaped.borrowed)) in_borrowed
      (borrowed_at m receiver channel + 1)

  pub borrowed_there : (r c : ℕ) → (r ≡ receiver → c ≡ channel → ⊥) → borrowed_at new r c ≡ borrowed_at m r c
  borrowed_there r c n =
      ⊎_elim
      (λ e. ap (λ r. at_two 0 (set_two m.borrowed receiver channel (borrowed_at m receiver channel + 1)) r c) e
      ∙ other_column m.borrowed receiver channel (borrowed_at m receiver channel + 1) 0 (omega (arith, at, shaped.borrowed)) c (λ f. n e f)
      ∙ sym (ap (λ r. borrowed_at m r c) e))
      (λ far. other_row m.borrowed receiver channel (borrowed_at m receiver channel + 1) 0 r c far)
      (cases_eq r receiver)

  -- no queue has a slot more often
  pub times_less : (i r c : ℕ) → times i (queue_at new r c) ≤ times i (queue_at m r c)
  times_less i r c =
      ⊎_elim
      (λ e. ⊎_elim
      (λ f. omega (
        arith,
        ap (λ r. times i (queue_at new r c)) e,
        ap (λ c. times i (queue_at new receiver c)) f,
        ap (times i) queue_here,
        entry i,
        ap (λ r. times i (queue_at m r c)) e,
        ap (λ c. times i (queue_at m receiver c)) f,
      ))
      (λ n. omega (arith, ap (times i) (queue_there r c (λ _ f. n f))))
      (cases_eq c channel))
      (λ n. omega (arith, ap (times i) (queue_there r c (λ e _. n e))))
      (cases_eq r receiver)

  -- all queues have the entry less
  pub all_less : (i : ℕ) → times i (all_entries new.queues) + cond (slot == i) 1 0 ≡ times i (all_entries m.queues)
  all_less i = omega (arith, times-set_two m.queues receiver channel there in_queues i rest, entry i)

  -- the slot is one of the sender's
  pub within : slot < length m.held
  within = shaped.inside slot (omega (arith, all_less slot, ap {B = ℕ} (λ b. cond b 1 0) (eq-eqb slot slot refl)))

  -- it is held once more
  pub held_more : (i : ℕ) → slice_index new.held i ≡ slice_index m.held i + cond (slot == i) 1 0
  held_more i =
      ⊎_elim
      (λ e. omega (
        arith,
        ap (λ j. slice_index new.held j) (sym e),
        get_or-set_same m.held slot (slice_index m.held slot + 1) 0 within,
        ap (λ j. slice_index m.held j) e,
        ap {B = ℕ} (λ b. cond b 1 0) (eq-eqb slot i e),
      ))
      (λ n. omega (
        arith,
        get_or-set_other m.held slot i (slice_index m.held slot + 1) 0 (λ e. n (sym e)),
        ap {B = ℕ} (λ b. cond b 1 0) (ne_eqb slot i n),
      ))
      (cases_eq slot i)

  -- so each slot is used as often as it was
  pub uses_kept : (i : ℕ) → uses new i ≡ uses m i
  uses_kept i = omega (arith, held_more i, all_less i)

  pub taken_shaped : (r n k : ℕ) → IsShaped r n k m → IsShaped r n k new
  taken_shaped r n k h = record {
    contents = h.contents ∙ sym (length-set m.held slot _);
    details = h.details ∙ sym (length-set m.held slot _);
    user_headers = h.user_headers ∙ sym (length-set m.held slot _);
    queues = length-set_two m.queues receiver channel rest ∙ h.queues;
    borrowed = length-set_two m.borrowed receiver channel (borrowed_at m receiver channel + 1) ∙ h.borrowed;
    queue_channels = λ q l. row_length m.queues receiver channel rest [] q ∙ h.queue_channels q l;
    borrowed_channels = λ q l. row_length m.borrowed receiver channel (borrowed_at m receiver channel + 1) 0 q ∙ h.borrowed_channels q l;
    capacity_is = h.capacity_is;
    within = λ q c. ⊎_elim
        (λ e. ⊎_elim
        (λ f. omega (
          arith,
          ap (λ q. length (queue_at new q c)) e,
          ap (λ c. length (queue_at new receiver c)) f,
          ap length queue_here,
          length-rest (queue_at m receiver channel),
          h.within receiver channel,
        ))
        (λ far. omega (arith, ap length (queue_there q c (λ _ f. far f)), h.within q c))
        (cases_eq c channel))
        (λ far. omega (arith, ap length (queue_there q c (λ e _. far e)), h.within q c))
        (cases_eq q receiver);
    inside = λ i some. omega (arith, h.inside i (omega (arith, some, all_less i)), length-set m.held slot (slice_index m.held slot + 1));
  }

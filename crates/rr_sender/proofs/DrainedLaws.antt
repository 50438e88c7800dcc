-- The queues to one receiver are cleared one after another.
use Rattle.std.proofs.Common.{◌≡◌, ◌≢◌, ℕ, ◌+◌, ◌<◌, ◌≤◌, [], List, cond, length, get_or, refl, sym, ap, ◌∙◌, ⊎_elim, arith}
use Rattle.std.specs.Prelude.{◌==◌, slice_index_or, slice_set}
use Rattle.std.proofs.lemmas.Bool.{cases_eq, cases_lt, eq-eqb, ne_eqb}
use Rattle.std.proofs.lemmas.List.{get_or_past, get_or-set_same, get_or-set_other, length-set}
use Rattle.rr_sender.specs.Draining.{MessagesDrained}
use Rattle.rr_sender.specs.Senders.{Messages, all_entries, at_two, content_at, is_left, queue_at, queue_cleared, set_two, times, uses, with_queue}
use Rattle.rr_sender.proofs.EmptiedLaws.{length-emptied_where, used_stays}
use Rattle.rr_sender.proofs.EntryLaws.{at_two-set_two, length-set_two, times-set_two}

module _ {X : Type 0} (rows : List (List X)) (i j : ℕ) (x d : X) (inside : i < length rows) where
  -- rows are as long as before
  row_length : (r : ℕ) → length (get_or (set_two rows i j x) r []) ≡ length (get_or rows r [])
  row_length r = ⊎_elim
      (λ e. ap (λ k. length (get_or (set_two rows i j x) k [])) e
      ∙ ap (λ (row : List X). length row) (get_or-set_same rows i (slice_set (get_or rows i []) j x) [] inside)
      ∙ length-set (get_or rows i []) j x
      ∙ ap (λ k. length (get_or rows k [])) (sym e))
      (λ n. ap (λ (row : List X). length row) (get_or-set_other rows i r (slice_set (get_or rows i []) j x) [] n))
      (cases_eq r i)

  -- another row is as it was, and another place of the row
  other_row : (r c : ℕ) → r ≢ i → at_two d (set_two rows i j x) r c ≡ at_two d rows r c
  other_row r c n = ap (λ (row : List X). get_or row c d) (get_or-set_other rows i r (slice_set (get_or rows i []) j x) [] n)

  other_column : (c : ℕ) → c ≢ j → at_two d (set_two rows i j x) i c ≡ at_two d rows i c
  other_column c n = ap (λ (row : List X). get_or row c d) (get_or-set_same rows i (slice_set (get_or rows i []) j x) [] inside)
      ∙ get_or-set_other (get_or rows i []) j c x d n

module _ {T N H : Type 0} (receiver : ℕ) where
  -- the first channels to a receiver lost all their entries
  pub record IsDrainedBelow (n : ℕ) (before after : Messages T N H) : Type 0 where
    pub rest : after ≡ record before { contents = after.contents; queues = after.queues }
    pub many : length after.contents ≡ length before.contents
    pub used : (slot : ℕ) → 0 < uses after slot → content_at after slot ≡ content_at before slot
    pub receivers : length after.queues ≡ length before.queues
    pub channels : (r : ℕ) → length (slice_index_or after.queues r []) ≡ length (slice_index_or before.queues r [])
    pub done : (channel : ℕ) → channel < n → queue_at after receiver channel ≡ []
    pub later : (channel : ℕ) → n ≤ channel → queue_at after receiver channel ≡ queue_at before receiver channel
    pub others : (r channel : ℕ) → r ≢ receiver → queue_at after r channel ≡ queue_at before r channel
    pub fewer : (slot : ℕ) → times slot (all_entries after.queues) ≤ times slot (all_entries before.queues)

  module _ (m : Messages T N H) (at : receiver < length m.queues) where
    pub drained_none : IsDrainedBelow 0 m m
    drained_none = record {
      rest = refl;
      many = refl;
      used = λ slot h. refl;
      receivers = refl;
      channels = λ r. refl;
      done = λ channel h. absurd (omega (arith, h));
      later = λ channel h. refl;
      others = λ r channel n. refl;
      fewer = λ slot. omega arith;
    }

    module _ (n : ℕ) (now : Messages T N H) (so : IsDrainedBelow n m now) where
      -- the receiver is there, and a channel
      pub still_at : receiver < length now.queues
      still_at = omega (arith, at, so.receivers)

      pub still_inside : n < length (get_or m.queues receiver []) → n < length (get_or now.queues receiver [])
      still_inside h = omega (arith, h, so.channels receiver)

      pub drained_more : n < length (get_or m.queues receiver []) → IsDrainedBelow (n + 1) m (queue_cleared now receiver n)
      drained_more inside = record {
        rest = ap (λ (k : Messages T N H). record k {
          contents = (queue_cleared now receiver n).contents;
          queues = (queue_cleared now receiver n).queues;
        }) so.rest;
        many = length-emptied_where (is_left (queue_at now receiver n) (with_queue now receiver n [])) now.contents ∙ so.many;
        used = λ slot h. used_stays (with_queue now receiver n []) (queue_at now receiver n) slot h
            ∙ so.used slot (omega (arith, h, times-set_two now.queues receiver n still_at (still_inside inside) slot []));
        receivers = length-set_two now.queues receiver n [] ∙ so.receivers;
        channels = λ r. row_length now.queues receiver n [] [] still_at r ∙ so.channels r;
        done = λ channel h. ⊎_elim
            (λ e. ap (λ k. at_two [] (set_two now.queues receiver n []) receiver k) e
            ∙ at_two-set_two [] now.queues receiver n still_at (still_inside inside) [])
            (λ e. other_column now.queues receiver n [] [] still_at channel e
            ∙ ⊎_elim (λ less. so.done channel less) (λ more. absurd (e (omega (arith, h, more)))) (cases_lt channel n))
            (cases_eq channel n);
        later = λ channel h. other_column now.queues receiver n [] [] still_at channel (λ e. omega (arith, e, h))
            ∙ so.later channel (omega (arith, h));
        others = λ r channel e. other_row now.queues receiver n [] [] still_at r channel e ∙ so.others r channel e;
        fewer = λ slot. omega (
          arith,
          so.fewer slot,
          times-set_two now.queues receiver n still_at (still_inside inside) slot [],
        );
      }

      pub drained_all : length (get_or m.queues receiver []) ≤ n → MessagesDrained (λ r. r == receiver) m now
      drained_all all = record {
        rest = so.rest;
        many = so.many;
        used = so.used;
        receivers = so.receivers;
        channels = so.channels;
        queues = λ r channel. ⊎_elim
            (λ e. ap (λ k. queue_at now k channel) e ∙ empty channel
            ∙ sym (ap (λ b. cond b [] (queue_at m r channel)) (eq-eqb r receiver e)))
            (λ e. so.others r channel e ∙ sym (ap (λ b. cond b [] (queue_at m r channel)) (ne_eqb r receiver e)))
            (cases_eq r receiver);
        fewer = so.fewer;
      }
        where
          empty : (channel : ℕ) → queue_at now receiver channel ≡ []
          empty channel = ⊎_elim
              (λ h. so.done channel h)
              (λ h. get_or_past (get_or now.queues receiver []) channel [] (omega (arith, h, all, so.channels receiver)))
              (cases_lt channel n)

-- Slots that lose their last use while another slot is put into queues are emptied.
use Rattle.std.proofs.Common.{◌≢◌, ◌<◌, ◌≤◌, ℕ, Bool, List, [], ◌∷◌, length, get_or, ap, ◌∙◌, ⊎_elim, arith}
use Rattle.std.specs.Prelude.{slice_index, slice_set}
use Rattle.std.proofs.lemmas.Bool.{cases_eq, cases_lt}
use Rattle.std.proofs.lemmas.List.{set-get_or}
use Rattle.rr_sender.specs.Senders.{Messages, all_entries, at_two, evicted, is_left, put, put_into, queue_at, set_two, times, uses, with_queue}
use Rattle.rr_sender.proofs.EmptiedLaws.{length-emptied_where, used_stays}
use Rattle.rr_sender.proofs.EntryLaws.{mark-other, times-set_two}
use Rattle.rr_store.specs.Emptying.{MessagesEmptied}
use Rattle.rr_store.specs.Sending.{after_puts, with_puts}
use Rattle.rr_store.proofs.base.lists.Replaced.{set_past}
use Rattle.rr_store.proofs.base.senders.Emptied.{messages_stay}
use Rattle.rr_store.proofs.sending.put.Queues.{times_put}

-- no other slot comes to a queue as a slot is put there, whether the queue is there or not
put_less : (overflow : Bool) (capacity slot : ℕ) (queues : List (List (List ℕ))) (receiver i : ℕ) → slot ≢ i
    → times i (all_entries (set_two queues receiver 0 (put overflow capacity (at_two [] queues receiver 0) slot))) ≤ times i (all_entries queues)
put_less overflow capacity slot queues receiver i other =
    ⊎_elim
    (λ at. ⊎_elim
    (λ inside. omega (
      arith,
      times-set_two queues receiver 0 at inside i queue,
      times_put overflow capacity slot i (at_two [] queues receiver 0),
      mark-other slot i other,
    ))
    (λ past. omega (
      arith,
      ap (λ (qs : List (List (List ℕ))). times i (all_entries qs))
          (ap (slice_set queues receiver) (set_past (get_or queues receiver []) 0 queue past) ∙ set-get_or queues receiver []),
    ))
    (cases_lt 0 (length (get_or queues receiver []))))
    (λ past. omega (
      arith,
      ap (λ (qs : List (List (List ℕ))). times i (all_entries qs))
          (set_past queues receiver (slice_set (get_or queues receiver []) 0 queue) past),
    ))
    (cases_lt receiver (length queues))
  where
    queue : List ℕ
    queue = put overflow capacity (at_two [] queues receiver 0) slot

module _ {T N H : Type 0} (overflow : Bool) (slot : ℕ) where
  puts_less : (m : Messages T N H) (places : List ℕ) (i : ℕ) → slot ≢ i → uses (with_puts overflow slot m places) i ≤ uses m i
  puts_less m [] i other = omega arith
  puts_less m (receiver ∷ places) i other = omega (
    arith,
    puts_less (with_queue m receiver 0 (put overflow m.capacity (queue_at m receiver 0) slot)) places i other,
    put_less overflow m.capacity slot m.queues receiver i other,
  )

  -- what is used after the puts was used before, since the slot is
  used_before : (m : Messages T N H) (places : List ℕ) → 0 < slice_index m.held slot → (i : ℕ)
      → 0 < uses (with_puts overflow slot m places) i → 0 < uses m i
  used_before m places held i used = ⊎_elim
      (λ e. omega (arith, held, ap (slice_index m.held) e, ap (uses m) e))
      (λ n. omega (arith, used, puts_less m places i (λ e. n e)))
      (cases_eq slot i)

  -- a slot that a handle holds was put into queues
  pub puts_emptied : (m : Messages T N H) (places : List ℕ) → 0 < slice_index m.held slot
      → MessagesEmptied (with_puts overflow slot m places) (after_puts overflow slot m places)
  puts_emptied m [] held = messages_stay m
  puts_emptied m (receiver ∷ places) held =
      let now : Messages T N H = with_queue m receiver 0 (put overflow m.capacity (queue_at m receiver 0) slot) in
      let more = puts_emptied (put_into overflow m receiver 0 slot) places held in
      record {
        rest = more.rest;
        many = more.many ∙ length-emptied_where (is_left (evicted overflow m.capacity (queue_at m receiver 0)) now) m.contents;
        used = λ i used. more.used i used
            ∙ used_stays now (evicted overflow m.capacity (queue_at m receiver 0)) i (used_before now places held i used);
      }

-- A slot is put into one queue of a sender.
use Rattle.std.proofs.Common.{◌≡◌, ◌≢◌, ◌<◌, ◌≤◌, ◌+◌, ℕ, Bool, List, [], length, get_or, sym, ap, ◌∙◌, ⊎_elim, arith}
use Rattle.std.proofs.lemmas.Bool.{cases_eq}
use Rattle.rr_sender.specs.Senders.{Messages, times, all_entries, at_two, set_two, queue_at, put, with_queue}
use Rattle.rr_sender.proofs.EntryLaws.{mark, mark-other, times-set_two, at_two-set_two, length-set_two}
use Rattle.rr_store.specs.Sound.{IsShaped}
use Rattle.rr_store.proofs.sending.put.Queues.{times_put, length_put}
use Rattle.rr_store.proofs.base.lists.SetTwo.{other_row, other_column, row_length}

module _ {T N H : Type 0} {receivers channels capacity : ℕ} (m : Messages T N H) (shaped : IsShaped receivers channels capacity m)
    (some : 0 < m.capacity) (overflow : Bool)
    (receiver channel slot : ℕ) (at : receiver < receivers) (inside : channel < channels) (held : slot < length m.held) where
  abbrev entries : List ℕ
  entries = put overflow m.capacity (queue_at m receiver channel) slot

  abbrev new : Messages T N H
  new = with_queue m receiver channel entries

  pub there : receiver < length m.queues
  there = omega (arith, at, shaped.queues)

  pub in_queues : channel < length (get_or m.queues receiver [])
  in_queues = omega (arith, inside, shaped.queue_channels receiver at)

  pub queue_here : queue_at new receiver channel ≡ entries
  queue_here = at_two-set_two [] m.queues receiver channel there in_queues entries

  pub queue_there : (r c : ℕ) → (r ≡ receiver → c ≡ channel → ⊥) → queue_at new r c ≡ queue_at m r c
  queue_there r c n =
      ⊎_elim
      (λ e. ap (λ r. at_two [] (set_two m.queues receiver channel entries) r c) e
      ∙ other_column m.queues receiver channel entries [] there c (λ f. n e f) ∙ sym (ap (λ r. queue_at m r c) e))
      (λ far. other_row m.queues receiver channel entries [] r c far)
      (cases_eq r receiver)

  -- a queue is the one with the slot, or as it was
  pub queue_cases : {Z : Type 0} (r c : ℕ) → (r ≡ receiver → c ≡ channel → queue_at new r c ≡ entries → Z)
      → (queue_at new r c ≡ queue_at m r c → Z) → Z
  queue_cases r c now before =
      ⊎_elim
      (λ e. ⊎_elim
      (λ f. now e f (ap (λ r. queue_at new r c) e ∙ ap (λ c. queue_at new receiver c) f ∙ queue_here))
      (λ n. before (queue_there r c (λ _ f. n f)))
      (cases_eq c channel))
      (λ n. before (queue_there r c (λ e _. n e)))
      (cases_eq r receiver)

  -- no other slot comes to a queue
  pub times_there : (i r c : ℕ) → slot ≢ i → times i (queue_at new r c) ≤ times i (queue_at m r c)
  times_there i r c n =
      queue_cases r c
      (λ e f is. omega (
        arith,
        ap (times i) is,
        times_put overflow m.capacity slot i (queue_at m receiver channel),
        mark-other slot i n,
        ap (λ r. times i (queue_at m r c)) e,
        ap (λ c. times i (queue_at m receiver c)) f,
      ))
      (λ is. omega (arith, ap (times i) is))

  -- and of all queues only the slot is there once more
  pub all_more : (i : ℕ) → times i (all_entries new.queues) ≤ times i (all_entries m.queues) + mark slot i
  all_more i = omega (
    arith,
    times-set_two m.queues receiver channel there in_queues i entries,
    times_put overflow m.capacity slot i (queue_at m receiver channel),
  )

  pub put_shaped : (r n k : ℕ) → IsShaped r n k m → IsShaped r n k new
  put_shaped r n k h = record {
    contents = h.contents;
    details = h.details;
    user_headers = h.user_headers;
    queues = length-set_two m.queues receiver channel entries ∙ h.queues;
    borrowed = h.borrowed;
    queue_channels = λ q l. row_length m.queues receiver channel entries [] q ∙ h.queue_channels q l;
    borrowed_channels = h.borrowed_channels;
    capacity_is = h.capacity_is;
    within = λ q c. queue_cases q c
        (λ e f is. omega (
          arith,
          ap length is,
          length_put overflow m.capacity slot (queue_at m receiver channel) some
              (omega (arith, h.within receiver channel, h.capacity_is)),
          h.capacity_is,
        ))
        (λ is. omega (arith, ap length is, h.within q c));
    inside = λ i waits. ⊎_elim
        (λ e. omega (arith, held, e))
        (λ n. h.inside i (omega (arith, waits, all_more i, mark-other slot i n)))
        (cases_eq slot i);
  }

-- A sender of which a slot was put into the first queue of several receivers.
use Rattle.std.proofs.Common.{◌≡◌, ◌≢◌, ◌<◌, ◌≤◌, ◌+◌, ℕ, Bool, List, [], Some, length, get_or, map, ap, ◌∙◌, subst, ⊎_elim, arith}
use Rattle.std.specs.Prelude.{slice_get, slice_index}
use Rattle.std.proofs.lemmas.Bool.{cases_eq}
use Rattle.rr_sender.specs.Senders.{Messages, times, all_entries, at_two, set_two, queue_at, put}
use Rattle.rr_sender.proofs.EntryLaws.{mark, mark-other, times-set_two, length-set_two}
use Rattle.rr_store.specs.Sending.{with_puts}
use Rattle.rr_store.specs.Sound.{IsShaped}
use Rattle.rr_store.proofs.base.lists.Adding.{mapped}
use Rattle.rr_store.proofs.base.lists.EachOnce.{IsApart, along}
use Rattle.rr_store.proofs.base.senders.Entries.{somewhere}
use Rattle.rr_store.proofs.sending.put.Queues.{times_put, length_put, put_here, put_there, other_channel, as_many, as_many_channels}
use Rattle.rr_store.proofs.base.lists.SetTwo.{row_length}
use Rattle.rr_store.proofs.base.lookups.Shown.{held_within}

module _ {T N H X : Type 0} {receivers capacity : ℕ} (m : Messages T N H) (shaped : IsShaped receivers 1 capacity m) (some : 0 < m.capacity)
    (overflow : Bool) (slot : ℕ) (held : 0 < slice_index m.held slot)
    (receiver : X → ℕ) (xs : List X) (inside : (i : ℕ) (x : X) → slice_get xs i ≡ Some x → receiver x < receivers)
    (apart : IsApart receiver xs) where
  abbrev new : Messages T N H
  new = with_puts overflow slot m (map receiver xs)

  pub queue_here : (i : ℕ) (x : X) → slice_get xs i ≡ Some x
      → queue_at new (receiver x) 0 ≡ put overflow m.capacity (queue_at m (receiver x) 0) slot
  queue_here i x at =
      let there = inside i x at in
      put_here overflow m.capacity slot receiver xs m.queues apart i x at (omega (arith, there, shaped.queues))
      (omega (arith, shaped.queue_channels (receiver x) there))

  pub queue_there : (r : ℕ) → ((i : ℕ) (x : X) → slice_get xs i ≡ Some x → receiver x ≢ r) → queue_at new r 0 ≡ queue_at m r 0
  queue_there r other = put_there overflow m.capacity slot receiver xs m.queues r other

  pub queue_other : (r c : ℕ) → c ≢ 0 → queue_at new r c ≡ queue_at m r c
  queue_other r c n = other_channel overflow m.capacity slot receiver xs m.queues r c n

  -- no queue has the slot more than once more, and another slot more often
  pub times_queue_put : (i r : ℕ) → times i (queue_at new r 0) ≤ times i (queue_at m r 0) + mark slot i
  times_queue_put i r =
      ⊎_elim
      (λ f. let e : queue_at new r 0 ≡ put overflow m.capacity (queue_at m r 0) slot = subst
      (λ r. queue_at new r 0 ≡ put overflow m.capacity (queue_at m r 0) slot) f.3 (queue_here f.0 f.1 f.2) in
      omega (arith, ap (times i) e, times_put overflow m.capacity slot i (queue_at m r 0)))
      (λ n. omega (arith, ap (times i) (queue_there r n)))
      (somewhere receiver xs r)

  -- as many queues, with no more entries of a slot
  abbrev Fine : ℕ → List (List (List ℕ)) → Type 0
  Fine i qs = (length qs ≡ receivers) × ((r : ℕ) → r < receivers → length (get_or qs r []) ≡ 1)
      × (times i (all_entries qs) ≤ times i (all_entries m.queues))

  -- nor have all queues another slot more often
  pub times_all_put : (i : ℕ) → slot ≢ i → times i (all_entries new.queues) ≤ times i (all_entries m.queues)
  times_all_put i n =
      let r = along (λ qs r. set_two qs r 0 (put overflow m.capacity (at_two [] qs r 0) slot)) (Fine i) (λ r. r < receivers) keep
      (map receiver xs) m.queues
      (λ j a at. let f = mapped receiver xs j a at in omega (arith, inside j f.0 f.1, f.2))
      (shaped.queues, (λ r h. shaped.queue_channels r h), omega arith) in
      r.2
    where
      keep : (qs : List (List (List ℕ))) (r : ℕ) → r < receivers → Fine i qs
          → Fine i (set_two qs r 0 (put overflow m.capacity (at_two [] qs r 0) slot))
      keep qs r h f =
          let queue = put overflow m.capacity (at_two [] qs r 0) slot in (
            length-set_two qs r 0 queue ∙ f.0,
            (λ k g. row_length qs r 0 queue [] k ∙ f.1 k g),
            omega (
              arith,
              f.2,
              times-set_two qs r 0 (omega (arith, h, f.0)) (omega (arith, f.1 r h)) i queue,
              times_put overflow m.capacity slot i (at_two [] qs r 0),
              mark-other slot i n,
            ),
          )

  pub put_shaped : (r n k : ℕ) → IsShaped r n k m → IsShaped r n k new
  put_shaped r n k h = record {
    contents = h.contents;
    details = h.details;
    user_headers = h.user_headers;
    queues = as_many overflow m.capacity slot receiver xs m.queues ∙ h.queues;
    borrowed = h.borrowed;
    queue_channels = λ q l. as_many_channels overflow m.capacity slot receiver xs m.queues q ∙ h.queue_channels q l;
    borrowed_channels = h.borrowed_channels;
    capacity_is = h.capacity_is;
    within = λ q c. ⊎_elim
        (λ e. ⊎_elim
        (λ f. let is : queue_at new q 0 ≡ put overflow m.capacity (queue_at m q 0) slot = subst
        (λ r. queue_at new r 0 ≡ put overflow m.capacity (queue_at m r 0) slot) f.3 (queue_here f.0 f.1 f.2) in
        omega (
          arith,
          ap (λ c. length (queue_at new q c)) e,
          ap length is,
          length_put overflow m.capacity slot (queue_at m q 0) some (omega (arith, h.within q 0, h.capacity_is)),
          h.capacity_is,
        ))
        (λ none. omega (arith, ap (λ c. length (queue_at new q c)) e, ap length (queue_there q none), h.within q 0))
        (somewhere receiver xs q))
        (λ far. omega (arith, ap length (queue_other q c far), h.within q c))
        (cases_eq c 0);
    inside = λ i waits. ⊎_elim
        (λ e. omega (arith, held_within m.held slot held, e))
        (λ n. h.inside i (omega (arith, waits, times_all_put i n)))
        (cases_eq slot i);
  }

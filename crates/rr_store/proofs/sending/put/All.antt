-- One more server has a slot in its queue.
use Rattle.std.proofs.Common.{◌≡◌, ◌≤◌, ◌+◌, ℕ, Bool, List, [], Some, drop, map, sym, ap, ◌∙◌, subst, arith}
use Rattle.std.specs.Prelude.{slice_get, slice_set}
use Rattle.rr_sender.specs.Senders.{Messages, queue_at, uses, put, put_into}
use Rattle.rr_sender.proofs.EntryLaws.{mark-same, times-set_two, length-set_two}
use Rattle.rr_store.specs.declared.port.ServerPort.{ServerPort}
use Rattle.rr_store.specs.Sending.{IsPutting, receivers_of, after_puts, with_marks}
use Rattle.rr_store.proofs.base.lists.ReadAt.{drop_here}
use Rattle.rr_store.proofs.sending.put.Queues.{times_put}
use Rattle.rr_store.proofs.base.lists.SetTwo.{row_length}

module _ {T N H K : Type 0} (overflow : Bool) (slot : ℕ) (before now : Messages T N H) (servers : List (ServerPort K)) (i : ℕ)
    (so : IsPutting overflow slot before now servers i) (s : ServerPort K) (at : slice_get servers i ≡ Some s) where
  abbrev receiver : ℕ
  receiver = s.port.receiver

  abbrev queue : List ℕ
  queue = put overflow now.capacity (queue_at now receiver 0) slot

  abbrev next : Messages T N H
  next = put_into overflow now receiver 0 slot

  -- the slot stands in one more queue at most
  one_more : uses next slot ≤ uses now slot + 1
  one_more =
      let has = so.queues i s at in
      omega (
        arith,
        times-set_two now.queues receiver 0 has.0 has.1 slot queue,
        times_put overflow now.capacity slot slot (queue_at now receiver 0),
        mark-same slot,
      )

  put_so : IsPutting overflow slot before next servers (i + 1)
  put_so = record {
    rest = sym (ap (λ (ss : List (ServerPort K)). after_puts overflow slot now (receivers_of ss)) (drop_here servers i s at)) ∙ so.rest;
    queues = λ j t there.
        let has = so.queues j t there in (
          omega (arith, has.0, length-set_two now.queues receiver 0 queue),
          omega (arith, has.1, row_length now.queues receiver 0 queue [] t.port.receiver),
        );
    capacity = so.capacity;
    held = so.held;
    used = omega (arith, so.used, one_more);
  }

  pub put_next : (new : Messages T N H) → new ≡ next → IsPutting overflow slot before new servers (i + 1)
  put_next new is = subst (λ m. IsPutting overflow slot before m servers (i + 1)) (sym is) put_so

-- one more mark is set
pub mark_next : {K : Type 0} (before now : List ℕ) (mark : ServerPort K → ℕ × ℕ) (servers : List (ServerPort K)) (i : ℕ) (s : ServerPort K)
    → slice_get servers i ≡ Some s → with_marks now (map mark (drop i servers)) ≡ with_marks before (map mark servers)
    → with_marks (slice_set now (mark s).0 (mark s).1) (map mark (drop (i + 1) servers)) ≡ with_marks before (map mark servers)
mark_next {K} before now mark servers i s at so = sym (ap (λ (ss : List (ServerPort K)). with_marks now (map mark ss)) (drop_here servers i s at)) ∙ so

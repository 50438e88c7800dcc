-- Senders from which nothing waits are passed over.
use Rattle.std.proofs.Common.{◌≡◌, ◌<◌, ◌≤◌, ◌+◌, ℕ, Bool, true, false, inl, inr, List, [], ◌∷◌, None, Some, length, map, nat_lt, refl, sym, ap, ◌∙◌, arith}
use Rattle.std.specs.Prelude.{slice_index_or, slice_set}
use Rattle.std.proofs.lemmas.Bool.{cases_lt, lt-ltb}
use Rattle.std.proofs.lemmas.List.{length-set}
use Rattle.std.proofs.lemmas.Option.{get_or_from_slice_get, slice_get-get_or, slice_get_within}
use Rattle.rr_table.proofs.Members.{any_there}
use Rattle.rr_sender.specs.Senders.{Messages, emptied_among, queue_at, queue_cleared, with_queue}
use Rattle.rr_sender.proofs.EmptiedLaws.{emptied_among-none}
use Rattle.rr_sender.proofs.EntryLaws.{length-set_two, set_two-itself}
use Rattle.rr_store.specs.Clearing.{IsClearedBelow, channel_cleared}
use Rattle.rr_store.specs.Draining.{HaveQueues}
use Rattle.rr_store.specs.KnownWaiting.{IsNextWaiting}
use Rattle.rr_store.specs.Loaning.{with_messages}
use Rattle.rr_store.specs.Parts.{Sender}
use Rattle.rr_store.specs.Receiving.{HaveChannels, IsLookedThrough, borrowed_from, queue_from}
use Rattle.rr_store.specs.Views.{no_sender, sender_of}
use Rattle.rr_store.specs.Waiting.{has_entry}
use Rattle.rr_store.proofs.querying.Connected.{none_pass}
use Rattle.rr_store.proofs.base.lists.Replaced.{set_alike}
use Rattle.rr_store.proofs.base.lists.SetTwo.{row_length}
use Rattle.rr_store.proofs.releasing.pending.Cleared.{cleared_all, cleared_more}

module _ {T N H : Type 0} (senders : List (Sender T N H)) (receiver channel : ℕ) where
  -- by a look that goes on at a later one
  pub looked_past : (most from n m : ℕ) (b : Bool) → IsLookedThrough senders receiver channel most from n b → n ≤ m
      → ((l : ℕ) → n ≤ l → l < m → queue_from senders receiver channel l ≡ []) → IsLookedThrough senders receiver channel most from m b
  looked_past most from n m b so le none = record {
    passed = λ l f h room. elim (cases_lt l n) [ inl before ↦ so.passed l f before room | inr after ↦ none l after h ];
    clear = λ e l f h. elim (cases_lt l n) [ inl before ↦ so.clear e l f before | inr after ↦ none l after h ];
    at_limit = λ e. let r = so.at_limit e in (r.0, omega (arith, r.1, le), r.2, r.3, r.4);
  }

  -- one has an entry
  pub entry_there : (l : ℕ) → l < length senders → 0 < length (queue_from senders receiver channel l) → has_entry receiver channel senders ≡ true
  entry_there l there some =
      any_there (λ (s : Sender T N H). nat_lt 0 (length (queue_at s.messages receiver channel))) senders l (sender_of l senders)
      (slice_get-get_or senders l no_sender there) (lt-ltb 0 (length (queue_from senders receiver channel l)) some)

  -- and none of all has one
  pub entry_nowhere : ((l : ℕ) → l < length senders → queue_from senders receiver channel l ≡ []) → has_entry receiver channel senders ≡ false
  entry_nowhere none =
      none_pass (λ (s : Sender T N H). nat_lt 0 (length (queue_at s.messages receiver channel))) senders
      (λ i s at. ap (λ (x : Sender T N H). nat_lt 0 (length (queue_at x.messages receiver channel))) (sym (get_or_from_slice_get senders i s no_sender at))
      ∙ ap (λ q. nat_lt 0 (length q)) (none i (slice_get_within senders i s at)))

-- nothing changes where an empty queue is cleared
module _ {T N H : Type 0} (receiver channel : ℕ) where
  none_dropped : (m : Messages T N H) → queue_at m receiver channel ≡ [] → queue_cleared m receiver channel ≡ m
  none_dropped m none =
      ap (λ q. emptied_among q (with_queue m receiver channel [])) none
      ∙ emptied_among-none (with_queue m receiver channel [])
      ∙ ap (with_queue m receiver channel) (sym none)
      ∙ ap (λ qs. record m { queues = qs }) (set_two-itself [] m.queues receiver channel)

  pub cleared_same : (x : Sender T N H) → queue_at x.messages receiver channel ≡ [] → channel_cleared receiver channel x ≡ x
  cleared_same x none = ap (with_messages x) (none_dropped x.messages none)

  module _ (senders now : List (Sender T N H)) (n : ℕ) (so : IsClearedBelow receiver channel n senders now) where
    cleared_past : (m : ℕ) → n ≤ m → ((l : ℕ) → n ≤ l → l < m → l < length now → queue_from now receiver channel l ≡ [])
        → IsClearedBelow receiver channel m senders now
    cleared_past m le none = record {
      many = so.many;
      done = λ l h there. elim (cases_lt l n) [
        | inl before ↦ so.done l before there
        | inr after ↦ so.rest l after ∙ sym (cleared_same (sender_of l senders)
            (ap (λ (x : Sender T N H). queue_at x.messages receiver channel) (sym (so.rest l after))
            ∙ none l after h (omega (arith, there, so.many))))
      ];
      rest = λ l h. so.rest l (omega (arith, h, le));
    }

    -- the next one that may have something is cleared
    module _ (sender : ℕ) (next : IsNextWaiting now receiver channel n (Some sender)) where
      abbrev cleared : Sender T N H
      cleared = channel_cleared receiver channel (sender_of sender now)

      pub cleared_next : IsClearedBelow receiver channel (sender + 1) senders (slice_set now sender cleared)
      cleared_next =
          cleared_more receiver channel senders sender now (cleared_past sender next.0 (λ l le lt there. next.2 l le lt))
          (omega (arith, next.1, so.many)) (sender_of sender now) refl

      pub queues_next : HaveQueues now receiver → HaveQueues (slice_set now sender cleared) receiver
      queues_next queues l there =
          let old = queues l (omega (arith, there, length-set now sender cleared)) in
          omega (
            arith,
            old,
            set_alike now sender cleared no_sender (λ (s : Sender T N H). length s.messages.queues)
                (length-set_two (sender_of sender now).messages.queues receiver channel []) l,
          )

      pub channels_next : HaveChannels now receiver channel → HaveChannels (slice_set now sender cleared) receiver channel
      channels_next channels l there =
          let old = channels l (omega (arith, there, length-set now sender cleared)) in
          omega (
            arith,
            old,
            set_alike now sender cleared no_sender (λ (s : Sender T N H). length (slice_index_or s.messages.queues receiver []))
                (row_length (sender_of sender now).messages.queues receiver channel [] [] receiver) l,
          )

    -- and where none has, all are
    pub cleared_whole : IsNextWaiting now receiver channel n None → now ≡ map (channel_cleared receiver channel) senders
    cleared_whole none =
        cleared_all receiver channel senders (n + length senders) now
        (cleared_past (n + length senders) (omega arith) (λ l le lt there. none l le there)) (omega arith)

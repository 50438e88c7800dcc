-- The queues from all senders to one receiver are cleared, one channel after another.
use Rattle.std.proofs.Common.{◌≡◌, ◌<◌, ◌≤◌, ◌+◌, ℕ, Bool, true, false, cond, inl, inr, List, [], length, map, refl, sym, ap, ◌∙◌, subst, subst₂, arith}
use Rattle.std.specs.Prelude.{◌==◌, slice_index_or}
use Rattle.std.proofs.lemmas.Bool.{cases_lt}
use Rattle.std.proofs.Math.ListN.{get_or-eq_default}
use Rattle.std.proofs.lemmas.List.{length-map}
use Rattle.rr_sender.specs.Draining.{MessagesDrained}
use Rattle.rr_sender.specs.Senders.{Messages, queue_at}
use Rattle.rr_sender.proofs.DrainedLaws.{IsDrainedBelow, drained_all, drained_more}
use Rattle.rr_store.specs.Clearing.{channel_cleared}
use Rattle.rr_store.specs.Draining.{HaveQueues, SendersDrained}
use Rattle.rr_store.specs.Loaning.{with_messages}
use Rattle.rr_store.specs.Parts.{Sender}
use Rattle.rr_store.specs.Receiving.{HaveChannels}
use Rattle.rr_store.specs.Views.{no_sender, sender_of}
use Rattle.rr_store.proofs.releasing.pending.Cleared.{dropped_at}

module _ {T N H : Type 0} (receiver : ℕ) where
  -- messages without anything for the receiver stay as they are
  none_drained : (m : Messages T N H) → ((channel : ℕ) → queue_at m receiver channel ≡ []) → (n : ℕ) → IsDrainedBelow receiver n m m
  none_drained m none n = record {
    rest = refl;
    many = refl;
    used = λ slot h. refl;
    receivers = refl;
    channels = λ r. refl;
    done = λ channel h. none channel;
    later = λ channel h. refl;
    others = λ r channel d. refl;
    fewer = λ slot. omega arith;
  }

  -- of each sender the queues on the first channels lost all their entries
  pub record AreDrainedBelow (n : ℕ) (before after : List (Sender T N H)) : Type 0 where
    pub many : length after ≡ length before
    pub rest : (l : ℕ) → sender_of l after ≡ record (sender_of l before) { messages = (sender_of l after).messages }
    pub each : (l : ℕ) → IsDrainedBelow receiver n (sender_of l before).messages (sender_of l after).messages

  pub drained_start : (senders : List (Sender T N H)) → AreDrainedBelow 0 senders senders
  drained_start senders = record {
    many = refl;
    rest = λ l. refl;
    each = λ l. record {
      rest = refl;
      many = refl;
      used = λ slot h. refl;
      receivers = refl;
      channels = λ r. refl;
      done = λ channel h. absurd (omega (arith, h));
      later = λ channel h. refl;
      others = λ r channel d. refl;
      fewer = λ slot. omega arith;
    };
  }

  module _ (before now : List (Sender T N H)) (n : ℕ) (so : AreDrainedBelow n before now) (queues : HaveQueues before receiver) where
    pub queues_still : HaveQueues now receiver
    queues_still l there =
        let old = queues l (omega (arith, there, so.many)) in let same = (so.each l).receivers in omega (arith, old, same)

    pub channels_still : (channels : ℕ) → ((l r : ℕ) → l < length before → r < length (sender_of l before).messages.queues
        → length (slice_index_or (sender_of l before).messages.queues r []) ≡ channels) → n < channels → HaveChannels now receiver n
    channels_still channels wide less l there =
        let inside : l < length before = omega (arith, there, so.many) in
        let old = wide l receiver inside (queues l inside) in let same = (so.each l).channels receiver in omega (arith, old, same, less)

    -- one more channel
    pub drained_next : HaveChannels now receiver n → AreDrainedBelow (n + 1) before (map (channel_cleared receiver n) now)
    drained_next channels = record {
      many = length-map now (channel_cleared receiver n) ∙ so.many;
      rest = λ l. dropped_at receiver n before now l ∙ ap (λ (s : Sender T N H). channel_cleared receiver n s) (so.rest l)
          ∙ ap (λ m. record (sender_of l before) { messages = m }) (sym (ap (λ (s : Sender T N H). s.messages) (dropped_at receiver n before now l)));
      each = λ l. elim (cases_lt l (length now)) [
        | inl there ↦
            subst (λ (s : Sender T N H). IsDrainedBelow receiver (n + 1) (sender_of l before).messages s.messages) (sym (dropped_at receiver n before now l))
            (drained_more receiver (sender_of l before).messages (queues l (let h : l < length before = omega (arith, there, so.many) in h)) n
            (sender_of l now).messages (so.each l)
            (let new = channels l there in let same = (so.each l).channels receiver in omega (arith, new, same)))
        | inr past ↦ subst₂ (λ (a b : Sender T N H). IsDrainedBelow receiver (n + 1) a.messages b.messages)
            (sym (get_or-eq_default before no_sender (omega (arith, past, so.many))))
            (sym (get_or-eq_default (map (channel_cleared receiver n) now) no_sender (omega (arith, past, length-map now (channel_cleared receiver n)))))
            (none_drained (no_sender {T = T} {N = N} {H = H}).messages (λ channel. refl) (n + 1))
      ];
    }

  -- and all channels
  pub drained_for : (before now : List (Sender T N H)) (n : ℕ) → AreDrainedBelow n before now → HaveQueues before receiver
      → ((l r : ℕ) → l < length before → r < length (sender_of l before).messages.queues
      → length (slice_index_or (sender_of l before).messages.queues r []) ≤ n)
      → SendersDrained (λ l r. r == receiver) before now
  drained_for before now n so queues all = record {
    many = so.many;
    each = λ l. record {
      rest = so.rest l;
      messages = elim (cases_lt l (length before)) [
        | inl there ↦ drained_all receiver (sender_of l before).messages (queues l there) n (sender_of l now).messages (so.each l)
            (all l receiver there (queues l there))
        | inr past ↦ subst₂ (λ (a b : Sender T N H). MessagesDrained (λ r. r == receiver) a.messages b.messages)
            (sym (get_or-eq_default before no_sender past))
            (sym (get_or-eq_default now no_sender (omega (arith, past, so.many)))) (nothing_there (no_sender {T = T} {N = N} {H = H}).messages (λ r c. refl))
      ];
    };
  }
    where
      empty : (b : Bool) (q : List ℕ) → q ≡ [] → q ≡ cond b [] q
      empty true q e = e
      empty false q e = refl

      nothing_there : (m : Messages T N H) → ((r c : ℕ) → queue_at m r c ≡ []) → MessagesDrained (λ r. r == receiver) m m
      nothing_there m none = record {
        rest = refl;
        many = refl;
        used = λ slot h. refl;
        receivers = refl;
        channels = λ r. refl;
        queues = λ r channel. empty (r == receiver) (queue_at m r channel) (none r channel);
        fewer = λ slot. omega arith;
      }

-- Queues that lost all their entries, one after another.
use Rattle.std.proofs.Common.{◌≡◌, ◌<◌, ◌⊎◌, ◌||◌, ◌&&◌, ℕ, zero, suc, Bool, true, false, cond, List, [], ◌∷◌, length, inl, inr, refl, sym, ap, ◌∙◌, subst, ⊎_elim, arith}
use Rattle.std.specs.Prelude.{◌==◌, slice_index_or, slice_set}
use Rattle.std.proofs.lemmas.Bool.{cases_eq, eq-eqb, ne_eqb}
use Rattle.std.proofs.lemmas.List.{ext_get_or, get_or-set_same, get_or-set_other, length-set}
use Rattle.rr_sender.specs.Draining.{MessagesDrained}
use Rattle.rr_sender.specs.Senders.{Messages, queue_at, uses}
use Rattle.rr_store.specs.Draining.{SenderDrained, SendersDrained}
use Rattle.rr_store.specs.KnownWaiting.{KnowsWaiting}
use Rattle.rr_store.specs.declared.side.waiting.Waiting.{Waiting}
use Rattle.rr_store.specs.Emptying.{SendersEmptied, SenderEmptied}
use Rattle.rr_store.specs.Leaving.{SenderCleared, SendersCleared, SendersCut}
use Rattle.rr_store.specs.Loaning.{with_messages}
use Rattle.rr_store.specs.Parts.{Sender}
use Rattle.rr_store.specs.Views.{no_sender, sender_of}
use Rattle.rr_store.proofs.base.senders.Fewer.{IsFewer, senders_fewer}

-- what lost all once or twice lost all
either : {X : Type 0} (a b : Bool) (xs : List X) → cond b [] (cond a [] xs) ≡ cond (a || b) [] xs
either true true xs = refl
either true false xs = refl
either false true xs = refl
either false false xs = refl

-- nothing was lost where there was nothing
nothing : {X : Type 0} (b : Bool) (xs : List X) → xs ≡ [] → cond b [] xs ≡ []
nothing true xs none = refl
nothing false xs none = none

module _ {T N H : Type 0} where
  -- each slot is used at least as often before
  used_before : (cut : ℕ → Bool) (a b : Messages T N H) → MessagesDrained cut a b → (slot : ℕ) → 0 < uses b slot → 0 < uses a slot
  used_before cut a b d slot h =
      omega (arith, h, d.fewer slot, ap (λ (m : Messages T N H). slice_index_or m.held slot 0) d.rest)

  messages_twice : (c d : ℕ → Bool) (m n k : Messages T N H) → MessagesDrained c m n → MessagesDrained d n k
      → MessagesDrained (λ r. c r || d r) m k
  messages_twice c d m n k first then = record {
    rest = then.rest ∙ ap (λ (x : Messages T N H). record x { contents = k.contents; queues = k.queues }) first.rest;
    many = then.many ∙ first.many;
    used = λ slot h. then.used slot h ∙ first.used slot (used_before d n k then slot h);
    receivers = then.receivers ∙ first.receivers;
    channels = λ r. then.channels r ∙ first.channels r;
    queues = λ r channel. then.queues r channel
        ∙ ap (λ (q : List ℕ). cond (d r) [] q) (first.queues r channel)
        ∙ either (c r) (d r) (queue_at m r channel);
    fewer = λ slot. omega (arith, then.fewer slot, first.fewer slot);
  }

  messages_as : (c d : ℕ → Bool) (m n : Messages T N H) → ((r : ℕ) → (c r ≡ d r) ⊎ ((channel : ℕ) → queue_at m r channel ≡ []))
      → MessagesDrained c m n → MessagesDrained d m n
  messages_as c d m n same drained = record {
    rest = drained.rest;
    many = drained.many;
    used = drained.used;
    receivers = drained.receivers;
    channels = drained.channels;
    queues = λ r channel. drained.queues r channel
        ∙ ⊎_elim
        (λ e. ap (λ b. cond b [] (queue_at m r channel)) e)
        (λ none. nothing (c r) (queue_at m r channel) (none channel) ∙ sym (nothing (d r) (queue_at m r channel) (none channel)))
        (same r);
    fewer = drained.fewer;
  }

  messages_none : (m : Messages T N H) → MessagesDrained (λ r. false) m m
  messages_none m = record {
    rest = refl;
    many = refl;
    used = λ slot h. refl;
    receivers = refl;
    channels = λ r. refl;
    queues = λ r channel. refl;
    fewer = λ slot. omega arith;
  }

  -- senders that lost nothing
  pub drained_none : (a : List (Sender T N H)) → SendersDrained (λ l r. false) a a
  drained_none a = record { many = refl; each = λ l. record { rest = refl; messages = messages_none (sender_of l a).messages } }

  -- and senders that lost some entries, and then others
  pub drained_twice : (c d : ℕ → ℕ → Bool) (a b e : List (Sender T N H)) → SendersDrained c a b → SendersDrained d b e
      → SendersDrained (λ l r. c l r || d l r) a e
  drained_twice c d a b e first then = record {
    many = then.many ∙ first.many;
    each = λ l. record {
      rest = (then.each l).rest ∙ ap (λ (x : Sender T N H). record x { messages = (sender_of l e).messages }) (first.each l).rest;
      messages = messages_twice (c l) (d l) (sender_of l a).messages (sender_of l b).messages (sender_of l e).messages
          (first.each l).messages (then.each l).messages;
    };
  }

  -- it says the same of other queues, if there was nothing in them
  pub drained_as : (c d : ℕ → ℕ → Bool) (a b : List (Sender T N H))
      → ((l r : ℕ) → (c l r ≡ d l r) ⊎ ((channel : ℕ) → queue_at (sender_of l a).messages r channel ≡ []))
      → SendersDrained c a b → SendersDrained d a b
  drained_as c d a b same drained = record {
    many = drained.many;
    each = λ l. record {
      rest = (drained.each l).rest;
      messages = messages_as (c l) (d l) (sender_of l a).messages (sender_of l b).messages (same l) (drained.each l).messages;
    };
  }

  pub drained_same : (c d : ℕ → ℕ → Bool) (a b : List (Sender T N H)) → ((l r : ℕ) → c l r ≡ d l r)
      → SendersDrained c a b → SendersDrained d a b
  drained_same c d a b same = drained_as c d a b (λ l r. inl (same l r))

  -- the messages of one sender were drained
  pub drained_set : (cut : ℕ → Bool) (senders : List (Sender T N H)) (sender : ℕ) (m : Messages T N H) → sender < length senders
      → MessagesDrained cut (sender_of sender senders).messages m
      → SendersDrained (λ l r. l == sender && cut r) senders
      (slice_set senders sender (with_messages (sender_of sender senders) m))
  drained_set cut senders sender m there drained = record {
    many = length-set senders sender new;
    each = λ l. ⊎_elim (λ e. here l e) (λ n. other l n) (cases_eq l sender);
  }
    where
      new : Sender T N H
      new = with_messages (sender_of sender senders) m

      here : (l : ℕ) → l ≡ sender
          → SenderDrained (λ r. l == sender && cut r) (sender_of l senders) (sender_of l (slice_set senders sender new))
      here l e =
          subst (λ (b : Bool). SenderDrained (λ r. b && cut r) (sender_of l senders) (sender_of l (slice_set senders sender new)))
          (sym (eq-eqb l sender e))
          (subst (λ (k : ℕ). SenderDrained cut (sender_of k senders) (sender_of k (slice_set senders sender new))) (sym e)
          (subst (λ (x : Sender T N H). SenderDrained cut (sender_of sender senders) x)
          (sym (get_or-set_same senders sender new no_sender there)) (record { rest = refl; messages = drained })))

      other : (l : ℕ) → (l ≡ sender → ⊥)
          → SenderDrained (λ r. l == sender && cut r) (sender_of l senders) (sender_of l (slice_set senders sender new))
      other l n =
          subst (λ (b : Bool). SenderDrained (λ r. b && cut r) (sender_of l senders) (sender_of l (slice_set senders sender new)))
          (sym (ne_eqb l sender n))
          (subst (λ (x : Sender T N H). SenderDrained (λ r. false) (sender_of l senders) x)
          (sym (get_or-set_other senders sender l new no_sender n))
          (record { rest = refl; messages = messages_none (sender_of l senders).messages }))

  -- senders with the queues of others
  abbrev with_queues_of : Sender T N H → Sender T N H → Sender T N H
  with_queues_of x y = record x { messages = record x.messages { queues = y.messages.queues } }

  abbrev each_with_queues_of : List (Sender T N H) → List (Sender T N H) → List (Sender T N H)
  each_with_queues_of [] after = []
  each_with_queues_of (x ∷ before) [] = []
  each_with_queues_of (x ∷ before) (y ∷ after) = with_queues_of x y ∷ each_with_queues_of before after

  many_with_queues : (before after : List (Sender T N H)) → length after ≡ length before
      → length (each_with_queues_of before after) ≡ length before
  many_with_queues [] after same = refl
  many_with_queues (x ∷ before) [] same = absurd (omega (arith, same))
  many_with_queues (x ∷ before) (y ∷ after) same = omega (arith, many_with_queues before after (omega (arith, same)))

  queues_of_each : (before after : List (Sender T N H)) → length after ≡ length before → (l : ℕ)
      → sender_of l (each_with_queues_of before after) ≡ with_queues_of (sender_of l before) (sender_of l after)
  queues_of_each [] [] same l = refl
  queues_of_each [] (y ∷ after) same l = absurd (omega (arith, same))
  queues_of_each (x ∷ before) [] same l = absurd (omega (arith, same))
  queues_of_each (x ∷ before) (y ∷ after) same zero = refl
  queues_of_each (x ∷ before) (y ∷ after) same (suc l) = queues_of_each before after (omega (arith, same)) l

  -- first queues lost their entries, and then slots were emptied
  pub drained_middle : (cut : ℕ → ℕ → Bool) (before after : List (Sender T N H)) → SendersDrained cut before after
      → (middle : List (Sender T N H)) × SendersCut cut before middle × SendersCleared before middle × SendersEmptied middle after
  drained_middle cut before after drained = (
    middle,
    record {
      many = many_with_queues before after drained.many;
      rest = λ l. is l
          ∙ ap (λ (x : Sender T N H). record (sender_of l before) {
            messages = record (sender_of l before).messages { queues = x.messages.queues };
          }) (sym (is l));
      queues = λ l r channel. ap (λ (x : Sender T N H). queue_at x.messages r channel) (is l)
          ∙ (drained.each l).messages.queues r channel;
    },
    record {
      many = many_with_queues before after drained.many;
      each = λ l. subst (λ (x : Sender T N H). SenderCleared (sender_of l before) x) (sym (is l)) (cleared l);
    },
    record {
      many = drained.many ∙ sym (many_with_queues before after drained.many);
      each = λ l. subst (λ (x : Sender T N H). SenderEmptied x (sender_of l after)) (sym (is l)) (emptied l);
    },
  )
    where
      middle : List (Sender T N H)
      middle = each_with_queues_of before after

      is : (l : ℕ) → sender_of l middle ≡ with_queues_of (sender_of l before) (sender_of l after)
      is l = queues_of_each before after drained.many l

      gone : {X : Type 0} (b : Bool) (xs : List X) → (cond b [] xs ≡ []) ⊎ (cond b [] xs ≡ xs)
      gone true xs = inl refl
      gone false xs = inr refl

      cleared : (l : ℕ) → SenderCleared (sender_of l before) (with_queues_of (sender_of l before) (sender_of l after))
      cleared l = let d = (drained.each l).messages in record {
        rest = refl;
        receivers = d.receivers;
        channels = d.channels;
        each = λ r channel. ⊎_elim
            (λ e. inl (d.queues r channel ∙ e))
            (λ e. inr (d.queues r channel ∙ e))
            (gone (cut l r) (queue_at (sender_of l before).messages r channel));
        fewer = d.fewer;
      }

      emptied : (l : ℕ) → SenderEmptied (with_queues_of (sender_of l before) (sender_of l after)) (sender_of l after)
      emptied l = let d = (drained.each l).messages in record {
        rest = (drained.each l).rest;
        messages = record {
          rest = d.rest;
          many = d.many;
          used = λ slot h. d.used slot (omega (
            arith,
            h,
            ap (λ (m : Messages T N H). slice_index_or m.held slot 0) d.rest,
          ));
        };
      }

  -- a sender has the queues that it had to a receiver of which none was cleared
  pub row_kept : (cut : ℕ → ℕ → Bool) (a b : List (Sender T N H)) → SendersDrained cut a b → (l r : ℕ) → cut l r ≡ false
      → slice_index_or (sender_of l b).messages.queues r [] ≡ slice_index_or (sender_of l a).messages.queues r []
  row_kept cut a b drained l r none = let d = (drained.each l).messages in
      ext_get_or [] (slice_index_or (sender_of l b).messages.queues r []) (slice_index_or (sender_of l a).messages.queues r [])
      (d.channels r)
      (λ channel h. d.queues r channel ∙ ap (λ c. cond c [] (queue_at (sender_of l a).messages r channel)) none)

-- from whom something may wait stays known as queues lose all their entries
drained_fewer : {T N H : Type 0} (cut : ℕ → Bool) (m n : Messages T N H) → MessagesDrained cut m n → IsFewer m.queues n.queues
drained_fewer cut m n drained = record {
  rows = drained.receivers;
  channels = drained.channels;
  fewer = λ r c some. by (queue_at m r c) (cut r) (subst (λ q. 0 < length q) (drained.queues r c) some);
}
  where
    by : (q : List ℕ) (b : Bool) → 0 < length (cond b [] q) → 0 < length q
    by q true h = absurd (omega (arith, h))
    by q false h = h

pub drained_noted : {T N H : Type 0} (w : Waiting) (cut : ℕ → ℕ → Bool) (a b : List (Sender T N H)) → SendersDrained cut a b → KnowsWaiting w a
    → KnowsWaiting w b
drained_noted w cut a b drained known =
    senders_fewer w a b drained.many (λ l. drained_fewer (cut l) (sender_of l a).messages (sender_of l b).messages (drained.each l).messages) known

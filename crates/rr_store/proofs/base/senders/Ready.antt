-- What is known of senders from which something may wait, as one more comes or one is taken again.
use Rattle.std.proofs.Common.{◌≡◌, ◌⊎◌, inl, inr, ℕ, ◌+◌, ◌*◌, ◌<◌, List, [], ◌∷◌, ◌++◌, length, map, replicate, sym, ap, subst, ◌∙◌, arith, length-append}
use Rattle.std.specs.Prelude.{slice_index_or, slice_set}
use Rattle.std.proofs.lemmas.Bool.{cases_eq, cases_lt}
use Rattle.std.proofs.lemmas.List.{get_or-replicate, get_or-set_other, get_or-set_same, get_or_append_left, length-replicate, length-set, map-append}
use Rattle.std.proofs.Math.ListN.{get_or-eq_default}
use Rattle.std.proofs.Math.Seq.{get_or-append_seam}
use Rattle.rr_sender.specs.BitSets.{has}
use Rattle.rr_sender.specs.Senders.{at_two}
use Rattle.rr_store.specs.KnownWaiting.{AreAlike, AreSentAgain, IsGrown, IsReady, KnowsWaiting, set_of}
use Rattle.rr_store.specs.declared.port.OwnedSender.{OwnedSender}
use Rattle.rr_store.specs.declared.side.waiting.Waiting.{Waiting}
use Rattle.rr_store.specs.Parts.{Sender}
use Rattle.rr_store.specs.Ports.{sender_part}
use Rattle.rr_store.specs.Receiving.{queue_from}
use Rattle.rr_store.specs.Views.{no_sender, sender_of}
use Rattle.rr_store.proofs.base.lists.Replaced.{map-set_one}
use Rattle.rr_store.proofs.base.senders.Fewer.{IsFewer, fewer_same, senders_fewer}
use Rattle.rr_store.proofs.base.senders.Noted.{queue_inside, set_within}

-- queues on which nothing was sent
abbrev pub unsent : ℕ → ℕ → List (List (List ℕ))
unsent receivers channels = replicate receivers (replicate channels [])

module _ (receivers channels : ℕ) where
  row_count : length (unsent receivers channels) ≡ receivers
  row_count = length-replicate {A = List (List ℕ)} receivers (replicate channels [])

  row_at : (r : ℕ) → r < receivers → slice_index_or (unsent receivers channels) r [] ≡ replicate channels []
  row_at r h = get_or-replicate receivers r (replicate channels []) [] h

  column_count : (r : ℕ) → r < receivers → length (slice_index_or (unsent receivers channels) r []) ≡ channels
  column_count r h = ap length (row_at r h) ∙ length-replicate {A = List ℕ} channels []

  nothing_at : (r c : ℕ) → at_two [] (unsent receivers channels) r c ≡ []
  nothing_at r c = elim (cases_lt r receivers) [
    | inr h ↦ ap (λ (row : List (List ℕ)). slice_index_or row c []) (get_or-eq_default (unsent receivers channels) [] (omega (arith, h, row_count)))
    | inl h ↦ ap (λ (row : List (List ℕ)). slice_index_or row c []) (row_at r h) ∙ elim (cases_lt c channels) [
      | inl g ↦ get_or-replicate channels c [] [] g
      | inr g ↦ get_or-eq_default (replicate channels []) [] (omega (arith, g, length-replicate {A = List ℕ} channels []))
    ]
  ]

-- what was got for one more doesn't matter to those that there are
pub grown_noted : {T N H : Type 0} (w after_w : Waiting) (senders : List (Sender T N H)) (count : ℕ) → count ≡ length senders → IsGrown count w after_w
    → KnowsWaiting w senders → KnowsWaiting after_w senders
grown_noted w after_w senders count many grown known = record {
  alike = record {
    rows = λ l there. known.alike.rows l there ∙ sym (grown.dims (omega (arith, there, many))).0;
    columns = λ l r there at.
        let dims = grown.dims (omega (arith, there, many)) in
        known.alike.columns l r there (omega (arith, at, dims.0)) ∙ sym dims.1;
  };
  sets = grown.sets;
  fits = grown.fits;
  even = grown.even;
  room = λ several. let old = known.room several in let more = grown.columns (omega (arith, several, many)) in omega (arith, old, more);
  there = λ set l is. elim (grown.only set l is) [
    | inl old ↦ known.there set l old
    | inr lt ↦ omega (arith, lt, many)
  ];
  noted = λ several l r c there some.
      let dims = grown.dims (omega (arith, several, many)) in
      ap (λ n. has after_w.senders (r * n + c) l) dims.1
      ∙ grown.kept (omega (arith, several, many)) (set_of w r c) l (known.noted several l r c there some);
}

module _ {T N H : Type 0} (w : Waiting) (senders : List (Sender T N H)) (known : KnowsWaiting w senders) (receivers channels : ℕ)
    (alike : AreAlike receivers channels senders) (new : Sender T N H) (empty : new.messages.queues ≡ unsent receivers channels) where
  new_rows : length new.messages.queues ≡ receivers
  new_rows = ap length empty ∙ row_count receivers channels

  new_columns : (r : ℕ) → r < receivers → length (slice_index_or new.messages.queues r []) ≡ channels
  new_columns r h = ap (λ (qs : List (List (List ℕ))). length (slice_index_or qs r [])) empty ∙ column_count receivers channels r h

  new_none : (r c : ℕ) → at_two [] new.messages.queues r c ≡ []
  new_none r c = ap (λ (qs : List (List (List ℕ))). at_two [] qs r c) empty ∙ nothing_at receivers channels r c

  -- with one more behind all others
  module _ (count : ℕ) (many : count ≡ length senders) (ready : IsReady count receivers channels w) where
    abbrev after : List (Sender T N H)
    after = senders ++ new ∷ []

    after_many : length after ≡ length senders + 1
    after_many = length-append senders (new ∷ [])

    old_at : (l : ℕ) → l < length senders → sender_of l after ≡ sender_of l senders
    old_at l h = get_or_append_left senders (new ∷ []) no_sender l h

    new_at : sender_of (length senders) after ≡ new
    new_at = get_or-append_seam senders new [] no_sender

    its_receivers : w.receivers ≡ receivers
    its_receivers = elim (cases_eq count 0) [
      | inl e ↦ (ready.begun e).0
      | inr d ↦ let first : 0 < length senders = omega (arith, d, many) in sym (known.alike.rows 0 first) ∙ alike.rows 0 first
    ]

    its_channels : 0 < receivers → w.channels ≡ channels
    its_channels some = elim (cases_eq count 0) [
      | inl e ↦ (ready.begun e).1
      | inr d ↦
          let first : 0 < length senders = omega (arith, d, many) in
          sym (known.alike.columns 0 0 first (omega (arith, some, its_receivers))) ∙ alike.columns 0 0 first some
    ]

    last_or : (l : ℕ) → l < length after → (l < length senders) ⊎ (l ≡ length senders)
    last_or l h = elim (cases_lt l (length senders)) [ inl lt ↦ inl lt | inr le ↦ inr (omega (arith, h, le, after_many)) ]

    pub pushed_noted : KnowsWaiting w after
    pushed_noted = record {
      alike = record {
        rows = λ l there. elim (last_or l there) [
          | inl old ↦ ap (λ (s : Sender T N H). length s.messages.queues) (old_at l old) ∙ known.alike.rows l old
          | inr e ↦ ap (λ n. length (sender_of n after).messages.queues) e ∙ ap (λ (s : Sender T N H). length s.messages.queues) new_at
              ∙ new_rows ∙ sym its_receivers
        ];
        columns = λ l r there at. elim (last_or l there) [
          | inl old ↦ ap (λ (s : Sender T N H). length (slice_index_or s.messages.queues r [])) (old_at l old) ∙ known.alike.columns l r old at
          | inr e ↦
              let inside : r < receivers = omega (arith, at, its_receivers) in
              ap (λ n. length (slice_index_or (sender_of n after).messages.queues r [])) e
              ∙ ap (λ (s : Sender T N H). length (slice_index_or s.messages.queues r [])) new_at
              ∙ new_columns r inside ∙ sym (its_channels (omega (arith, inside)))
        ];
      };
      sets = known.sets;
      fits = known.fits;
      even = known.even;
      room = λ several. let room = ready.room (omega (arith, several, after_many, many)) in omega (arith, room, after_many, many);
      there = λ set l is. let old = known.there set l is in omega (arith, old, after_many);
      noted = λ several l r c there some. elim (last_or l there) [
        | inr e ↦ absurd (let none : queue_from after r c l ≡ [] = ap (λ n. queue_from after r c n) e
            ∙ ap (λ (s : Sender T N H). at_two [] s.messages.queues r c) new_at ∙ new_none r c in omega (arith, some, ap length none))
        | inl old ↦
            let was : 0 < length (queue_from senders r c l) = subst (λ (s : Sender T N H). 0 < length (at_two [] s.messages.queues r c)) (old_at l old) some in
            elim (cases_lt 1 count) [
              | inl more ↦ known.noted (omega (arith, more, many)) l r c old was
              | inr one ↦
                  let inside = queue_inside (sender_of l senders).messages.queues r c was in
                  let set = set_within w senders known l r c old inside.0 inside.1 in
                  ap (λ n. has w.senders (set_of w r c) n) (let zero : l ≡ 0 = omega (arith, old, one, many) in zero)
                  ∙ ready.first (omega (arith, one, several, after_many, many)) (set_of w r c) set.1
            ]
      ];
    }

  -- with one in the place of another
  module _ (sender : ℕ) (there : sender < length senders) where
    no_more : IsFewer (sender_of sender senders).messages.queues new.messages.queues
    no_more = record {
      rows = new_rows ∙ sym (alike.rows sender there);
      channels = λ r. elim (cases_lt r receivers) [
        | inl h ↦ new_columns r h ∙ sym (alike.columns sender r there h)
        | inr h ↦ ap length (get_or-eq_default new.messages.queues [] (omega (arith, h, new_rows)))
            ∙ sym (ap length (get_or-eq_default (sender_of sender senders).messages.queues [] (let old = alike.rows sender there in omega (arith, h, old))))
      ];
      fewer = λ r c some. absurd (omega (arith, some, ap length (new_none r c)));
    }

    each : (l : ℕ) → IsFewer (sender_of l senders).messages.queues (sender_of l (slice_set senders sender new)).messages.queues
    each l = elim (cases_eq l sender) [
      | inl e ↦ subst (λ n. IsFewer (sender_of n senders).messages.queues (sender_of n (slice_set senders sender new)).messages.queues) (sym e)
          (subst (λ (s : Sender T N H). IsFewer (sender_of sender senders).messages.queues s.messages.queues)
          (sym (get_or-set_same senders sender new no_sender there)) no_more)
      | inr d ↦ subst (λ (s : Sender T N H). IsFewer (sender_of l senders).messages.queues s.messages.queues)
          (sym (get_or-set_other senders sender l new no_sender d)) (fewer_same (sender_of l senders).messages.queues)
    ]

    pub replaced_noted : KnowsWaiting w (slice_set senders sender new)
    replaced_noted = senders_fewer w senders (slice_set senders sender new) (length-set senders sender new) each known

-- so it is of the senders that are stored
module _ {B N H T : Type 0} (w : Waiting) (items : List (OwnedSender B N H T)) (known : KnowsWaiting w (map sender_part items)) (x : OwnedSender B N H T) where
  pub last_noted : (was now : List (OwnedSender B N H T)) → now ≡ was ++ x ∷ [] → was ≡ items → (receivers channels count : ℕ)
      → AreAlike receivers channels (map sender_part items) → x.messages.queues ≡ unsent receivers channels → count ≡ length (map sender_part items)
      → IsReady count receivers channels w → KnowsWaiting w (map sender_part now)
  last_noted was now pushed kept receivers channels count alike empty many ready =
      subst (KnowsWaiting w)
      (sym (ap (map sender_part) (pushed ∙ ap (λ xs. xs ++ x ∷ []) kept) ∙ map-append sender_part items (x ∷ [])))
      (pushed_noted w (map sender_part items) known receivers channels alike (sender_part x) empty count many ready)

  pub again_noted : (sender : ℕ) → sender < length (map sender_part items) → AreSentAgain (map sender_part items) x.messages.queues
      → KnowsWaiting w (map sender_part (slice_set items sender x))
  again_noted sender there again =
      subst (KnowsWaiting w) (sym (map-set_one sender_part items sender x))
      (replaced_noted w (map sender_part items) known again.0 again.1 again.3 (sender_part x) again.2 sender there)

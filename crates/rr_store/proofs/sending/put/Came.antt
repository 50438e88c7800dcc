-- After a slot was put into the queues to servers, an entry came to none but these, and their sender is noted for each.
use Rattle.std.proofs.Common.{◌≡◌, ◌≢◌, ◌⊎◌, inl, inr, ◌<◌, ◌≤◌, ◌+◌, ℕ, zero, suc, Bool, List, [], ◌∷◌, Some, length, map, get_or, refl, sym, ap, ap₂, ◌∙◌, subst, arith}
use Rattle.std.specs.Prelude.{slice_get, slice_index_or, slice_set}
use Rattle.std.proofs.lemmas.Bool.{cases_eq, cases_lt}
use Rattle.std.proofs.lemmas.List.{get_or-set_other, get_or-set_same, length-set}
use Rattle.std.proofs.lemmas.Option.{slice_get_within}
use Rattle.rr_sender.specs.BitSets.{has}
use Rattle.rr_sender.specs.Senders.{Messages, at_two, put, put_into, queue_at, set_two}
use Rattle.rr_sender.proofs.EntryLaws.{length-set_two}
use Rattle.rr_store.specs.KnownWaiting.{AreNotedAmong, KnowsWaiting, set_of}
use Rattle.rr_store.specs.declared.port.OwnedSender.{OwnedSender}
use Rattle.rr_store.specs.declared.port.ServerPort.{ServerPort}
use Rattle.rr_store.specs.declared.side.waiting.Waiting.{Waiting}
use Rattle.rr_store.specs.Parts.{Sender}
use Rattle.rr_store.specs.Ports.{sender_part}
use Rattle.rr_store.specs.Receiving.{queue_from}
use Rattle.rr_store.specs.Sending.{after_puts, receivers_of}
use Rattle.rr_store.specs.Views.{no_sender, sender_of}
use Rattle.rr_store.proofs.base.lists.Replaced.{map-set_one, set_past}
use Rattle.rr_store.proofs.base.lists.SetTwo.{other_column, other_row, row_length}
use Rattle.rr_store.proofs.base.senders.Noted.{now_noted}
use Rattle.rr_store.proofs.base.senders.Stored.{stored_is}

-- one element is another, and each other one is as it was
set_two_cases : {X : Type 0} (rows : List (List X)) (i j : ℕ) (x d : X) (r c : ℕ) → (at_two d (set_two rows i j x) r c ≡ at_two d rows r c) ⊎ ((r ≡ i) × (c ≡ j))
set_two_cases rows i j x d r c = elim (cases_eq r i) [
  | inr n ↦ inl (other_row rows i j x d r c n)
  | inl e ↦ elim (cases_eq c j) [
    | inl f ↦ inr (e, f)
    | inr n ↦ elim (cases_lt i (length rows)) [
      | inl h ↦ inl (ap (λ k. at_two d (set_two rows i j x) k c) e ∙ other_column rows i j x d h c n ∙ ap (λ k. at_two d rows k c) (sym e))
      | inr h ↦ inl (ap (λ (ys : List (List _)). at_two d ys r c) (set_past rows i (slice_set (slice_index_or rows i []) j x) h))
    ]
  ]
]

-- queues to which entries came to those for some servers alone
pub record IsPutTo {K : Type 0} (servers : List (ServerPort K)) (old new : List (List (List ℕ))) : Type 0 where
  pub rows : length new ≡ length old
  pub channels : (r : ℕ) → length (slice_index_or new r []) ≡ length (slice_index_or old r [])
  pub came : (r c : ℕ) → 0 < length (at_two [] new r c)
      → (0 < length (at_two [] old r c)) ⊎ ((i : ℕ) × (s : ServerPort K) × (slice_get servers i ≡ Some s) × (r ≡ s.port.receiver) × (c ≡ 0))

pub put_to : {T N H K : Type 0} (overflow : Bool) (slot : ℕ) (servers : List (ServerPort K)) (m : Messages T N H)
    → IsPutTo servers m.queues (after_puts overflow slot m (receivers_of servers)).queues
put_to overflow slot [] m = record { rows = refl; channels = λ r. refl; came = λ r c some. inl some }
put_to overflow slot (s ∷ servers) m =
    let queue = put overflow m.capacity (queue_at m s.port.receiver 0) slot in
    let so = put_to overflow slot servers (put_into overflow m s.port.receiver 0 slot) in
    record {
      rows = so.rows ∙ length-set_two m.queues s.port.receiver 0 queue;
      channels = λ r. so.channels r ∙ row_length m.queues s.port.receiver 0 queue [] r;
      came = λ r c some. elim (so.came r c some) [
        | inr it ↦ inr (suc it.0, it.1, it.2, it.3, it.4)
        | inl old ↦ elim (set_two_cases m.queues s.port.receiver 0 queue [] r c) [
          | inl same ↦ inl (subst (λ q. 0 < length q) same old)
          | inr e ↦ inr (0, s, refl, e.0, e.1)
        ]
      ];
    }

module _ {B N H T K : Type 0} (items : List (OwnedSender B N H T)) (sender : ℕ) (x y : OwnedSender B N H T)
    (there : sender < length (map sender_part items)) (read : x ≡ get_or items sender x) (servers : List (ServerPort K))
    (came : IsPutTo servers x.messages.queues y.messages.queues) where
  abbrev before : List (Sender T N H)
  before = map sender_part items

  abbrev after : List (Sender T N H)
  after = slice_set before sender (sender_part y)

  now_is : (sender_of sender after).messages.queues ≡ y.messages.queues
  now_is = ap (λ (s : Sender T N H). s.messages.queues) (get_or-set_same before sender (sender_part y) no_sender there)

  old_is : (sender_of sender before).messages.queues ≡ x.messages.queues
  old_is = ap (λ (s : Sender T N H). s.messages.queues) (stored_is items sender x there read)

  other_is : (l : ℕ) → l ≢ sender → (sender_of l after).messages.queues ≡ (sender_of l before).messages.queues
  other_is l d = ap (λ (s : Sender T N H). s.messages.queues) (get_or-set_other before sender l (sender_part y) no_sender d)

  rows : (l : ℕ) → length (sender_of l after).messages.queues ≡ length (sender_of l before).messages.queues
  rows l = elim (cases_eq l sender) [
    | inl e ↦ ap (λ n. length (sender_of n after).messages.queues) e ∙ ap length now_is ∙ came.rows ∙ ap length (sym old_is)
        ∙ ap (λ n. length (sender_of n before).messages.queues) (sym e)
    | inr d ↦ ap length (other_is l d)
  ]

  channels : (l r : ℕ) → length (slice_index_or (sender_of l after).messages.queues r []) ≡ length (slice_index_or (sender_of l before).messages.queues r [])
  channels l r = elim (cases_eq l sender) [
    | inl e ↦ ap (λ n. length (slice_index_or (sender_of n after).messages.queues r [])) e
        ∙ ap (λ (qs : List (List (List ℕ))). length (slice_index_or qs r [])) now_is ∙ came.channels r
        ∙ ap (λ (qs : List (List (List ℕ))). length (slice_index_or qs r [])) (sym old_is)
        ∙ ap (λ n. length (slice_index_or (sender_of n before).messages.queues r [])) (sym e)
    | inr d ↦ ap (λ (qs : List (List (List ℕ))). length (slice_index_or qs r [])) (other_is l d)
  ]

  -- so the sender that put it is known to have something for them
  module _ (w after_w : Waiting) (count : ℕ) (many : count ≡ length before) (noted : AreNotedAmong count servers sender w after_w) (known : KnowsWaiting w before) where
    as_many : length after ≡ length before
    as_many = length-set before sender (sender_part y)

    member : 1 < length before → (l r c : ℕ) → l < length after → 0 < length (queue_from after r c l) → has after_w.senders (set_of w r c) l ≡ 1
    member several l r c inside some = elim (cases_eq l sender) [
      | inr d ↦ noted.kept (set_of w r c) l (known.noted several l r c (omega (arith, inside, as_many))
          (subst (λ (qs : List (List (List ℕ))). 0 < length (at_two [] qs r c)) (other_is l d) some))
      | inl e ↦ elim (came.came r c (subst (λ (qs : List (List (List ℕ))). 0 < length (at_two [] qs r c)) now_is
          (subst (λ n. 0 < length (queue_from after r c n)) e some))) [
            | inl old ↦ noted.kept (set_of w r c) l (known.noted several l r c (omega (arith, inside, as_many))
                (subst (λ n. 0 < length (queue_from before r c n)) (sym e) (subst (λ (qs : List (List (List ℕ))). 0 < length (at_two [] qs r c)) (sym old_is) old)))
            | inr it ↦ ap (λ n. has after_w.senders (set_of w r c) n) e ∙ ap₂ (λ a b. has after_w.senders (set_of w a b) sender) it.3 it.4
                ∙ noted.here (omega (arith, several, many)) it.0 it.1 (slice_get_within servers it.0 it.1 it.2) it.2
          ]
    ]

    pub each_noted : KnowsWaiting after_w (map sender_part (slice_set items sender y))
    each_noted =
        subst (KnowsWaiting after_w) (sym (map-set_one sender_part items sender y))
        (now_noted w after_w before after known as_many rows channels noted.rest
        (λ s i h lt. noted.places s i (known.even s i h (omega (arith, lt, noted.columns)))) (omega (arith, noted.columns))
        (λ s l is. elim (noted.only s l is) [
          | inl old ↦ let within = known.there s l old in omega (arith, within, as_many)
          | inr e ↦ omega (arith, e, there, as_many)
        ])
        member)

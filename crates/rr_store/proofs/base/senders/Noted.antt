-- From which senders something may wait stays known.
use Rattle.std.proofs.Common.{◌≡◌, ◌≢◌, ◌⊎◌, inl, inr, ℕ, ◌+◌, ◌*◌, ◌/◌, ◌^◌, ◌<◌, ◌≤◌, Option, Some, List, [], length, map, get_or, refl, sym, ap, ap₂, subst, ◌∙◌, arith}
use Rattle.std.specs.Prelude.{slice_get, slice_set, slice_index_or}
use Rattle.std.proofs.lemmas.Bool.{cases_eq, cases_lt}
use Rattle.std.proofs.lemmas.List.{length-map, length-set}
use Rattle.std.proofs.lemmas.Nat.{mul-add-lt, same_from_place}
use Rattle.std.proofs.Math.Nat.{mul_comm}
use Rattle.std.proofs.Math.ListN.{get_or-eq_default}
use Rattle.rr_sender.specs.declared.bit_sets.BitSets.{BitSets}
use Rattle.rr_sender.specs.BitSets.{HasWord, IsBitChanged, has}
use Rattle.rr_sender.specs.SenderSets.{IsEven}
use Rattle.rr_store.specs.Draining.{HaveQueues}
use Rattle.rr_store.specs.KnownWaiting.{AreAlike, AreNotedBelow, HasPlace, IsNotedAmong, KnowsWaiting, set_of}
use Rattle.rr_store.specs.declared.port.OwnedSender.{OwnedSender}
use Rattle.rr_store.specs.declared.port.ServerPort.{ServerPort}
use Rattle.rr_store.specs.declared.side.waiting.Waiting.{Waiting}
use Rattle.rr_store.specs.Parts.{Sender}
use Rattle.rr_store.specs.Ports.{sender_part}
use Rattle.rr_store.specs.Receiving.{HaveChannels, queue_from}
use Rattle.rr_store.specs.Views.{no_sender, sender_of}
use Rattle.rr_store.proofs.base.lists.Replaced.{map-set_one, set_alike}
use Rattle.rr_store.proofs.base.senders.Stored.{stored_is}

-- the set of a queue that is there
pub set_within : {T N H : Type 0} (w : Waiting) (senders : List (Sender T N H)) → KnowsWaiting w senders → (l r c : ℕ) → l < length senders
    → r < length (sender_of l senders).messages.queues → c < length (slice_index_or (sender_of l senders).messages.queues r [])
    → (c < w.channels) × (set_of w r c < w.sets)
set_within w senders known l r c there row column =
    let rows = known.alike.rows l there in
    let at : r < w.receivers = omega (arith, row, rows) in
    let columns = known.alike.columns l r there at in
    let inside : c < w.channels = omega (arith, column, columns) in
    (inside, omega (arith, mul-add-lt r w.channels c w.receivers at inside, mul_comm w.channels w.receivers, known.sets))

-- the number of the set of a queue that is there, where there are several senders
pub set_fits : {T N H : Type 0} (w : Waiting) (senders : List (Sender T N H)) → KnowsWaiting w senders → (r c : ℕ) → 1 < length senders
    → HaveQueues senders r → HaveChannels senders r c → set_of w r c < 2 ^ 64
set_fits w senders known r c several queues channels =
    let there : 0 < length senders = omega (arith, several) in
    omega (arith, (set_within w senders known 0 r c there (queues 0 there) (channels 0 there)).1, known.fits)

module _ {T N H : Type 0} (w : Waiting) (before after : List (Sender T N H)) (known : KnowsWaiting w before) (many : length after ≡ length before)
  where
    -- where no queue has an entry that had none
    module _ (rows : (l : ℕ) → length (sender_of l after).messages.queues ≡ length (sender_of l before).messages.queues)
        (channels : (l r : ℕ) → length (slice_index_or (sender_of l after).messages.queues r []) ≡ length (slice_index_or (sender_of l before).messages.queues r []))
      where
        alike_still : AreAlike w.receivers w.channels after
        alike_still = record {
          rows = λ l there. rows l ∙ known.alike.rows l (omega (arith, there, many));
          columns = λ l r there at. channels l r ∙ known.alike.columns l r (omega (arith, there, many)) at;
        }

        pub fewer_noted : ((l r c : ℕ) → 0 < length (queue_from after r c l) → 0 < length (queue_from before r c l)) → KnowsWaiting w after
        fewer_noted fewer = record {
          alike = alike_still;
          sets = known.sets;
          fits = known.fits;
          even = known.even;
          room = λ several. let old = known.room (omega (arith, several, many)) in omega (arith, old, many);
          there = λ set l is. let old = known.there set l is in omega (arith, old, many);
          noted = λ several l r c there some. known.noted (omega (arith, several, many)) l r c (omega (arith, there, many)) (fewer l r c some);
        }

    -- where all queues are as they were
    pub same_noted : ((l : ℕ) → (sender_of l after).messages.queues ≡ (sender_of l before).messages.queues) → KnowsWaiting w after
    same_noted same = fewer_noted (λ l. ap length (same l)) (λ l r. ap (λ (qs : List (List (List ℕ))). length (slice_index_or qs r [])) (same l))
        (λ l r c some. subst (λ (qs : List (List (List ℕ))). 0 < length (slice_index_or (slice_index_or qs r []) c [])) (same l) some)

-- a sender changed, but not its queues
pub sender_noted : {B N H T : Type 0} (w : Waiting) (items : List (OwnedSender B N H T)) (sender : ℕ) (x y : OwnedSender B N H T)
    → sender < length (map sender_part items) → x ≡ get_or items sender x → y.messages.queues ≡ x.messages.queues
    → KnowsWaiting w (map sender_part items) → KnowsWaiting w (map sender_part (slice_set items sender y))
sender_noted w items sender x y there read same known =
    same_noted w (map sender_part items) (map sender_part (slice_set items sender y)) known
    (length-map (slice_set items sender y) sender_part ∙ length-set items sender y ∙ sym (length-map items sender_part))
    (λ l. ap (λ (ls : List (Sender _ _ _)). (sender_of l ls).messages.queues) (map-set_one sender_part items sender y)
    ∙ set_alike (map sender_part items) sender (sender_part y) no_sender (λ (s : Sender _ _ _). s.messages.queues)
    (same ∙ ap (λ (s : Sender _ _ _). s.messages.queues) (sym (stored_is items sender x there read))) l)

-- an entry stands in a queue that is there
pub queue_inside : (q : List (List (List ℕ))) (r c : ℕ) → 0 < length (slice_index_or (slice_index_or q r []) c [])
    → (r < length q) × (c < length (slice_index_or q r []))
queue_inside q r c some = (
  elim (cases_lt r (length q)) [
    | inl h ↦ h
    | inr h ↦ absurd (omega (arith, column, ap length (get_or-eq_default q [] h)))
  ],
  column,
)
  where
    column : c < length (slice_index_or q r [])
    column = elim (cases_lt c (length (slice_index_or q r []))) [
      | inl h ↦ h
      | inr h ↦ absurd (omega (arith, some, ap length (get_or-eq_default (slice_index_or q r []) [] h)))
    ]

-- who was a member is one after another came
stays_member : (set sender : ℕ) (old new : BitSets) → IsBitChanged 1 set sender old new → (s l : ℕ) → has old s l ≡ 1 → has new s l ≡ 1
stays_member set sender old new changed s l is = elim (cases_eq s set) [
  | inl e ↦ elim (cases_eq l sender) [
    | inl f ↦ subst (λ t. has new t l ≡ 1) (sym e) (subst (λ n. has new set n ≡ 1) (sym f) changed.here)
    | inr d ↦ changed.elsewhere s l (inr d) ∙ is
  ]
  | inr d ↦ changed.elsewhere s l (inl d) ∙ is
]

-- whether two pairs are one
cases_apart : (s t i j : ℕ) → ((s ≡ t) × (i ≡ j)) ⊎ ((s ≢ t) ⊎ (i ≢ j))
cases_apart s t i j = elim (cases_eq s t) [
  | inl e ↦ elim (cases_eq i j) [ inl f ↦ inl (e, f) | inr d ↦ inr (inr d) ]
  | inr d ↦ inr (inl d)
]

-- a set has as many places
even_still : (sets bit set sender : ℕ) (old new : BitSets) → IsBitChanged bit set sender old new → IsEven sets old → IsEven sets new
even_still sets bit set sender old new changed even s i h lt = (changed.places s i).0 (even s i h (omega (arith, lt, changed.columns)))

module _ {T N H : Type 0} (w after_w : Waiting) (before after : List (Sender T N H)) (known : KnowsWaiting w before) (many : length after ≡ length before)
    (rows : (l : ℕ) → length (sender_of l after).messages.queues ≡ length (sender_of l before).messages.queues)
    (channels : (l r : ℕ) → length (slice_index_or (sender_of l after).messages.queues r []) ≡ length (slice_index_or (sender_of l before).messages.queues r []))
    (rest : after_w ≡ record w { senders = after_w.senders }) where
  same_sets : after_w.sets ≡ w.sets
  same_sets = ap (λ (x : Waiting). x.sets) rest

  same_set : (r c : ℕ) → set_of after_w r c ≡ set_of w r c
  same_set r c = ap (λ (x : Waiting). r * x.channels + c) rest

  same_receivers : after_w.receivers ≡ w.receivers
  same_receivers = ap (λ (x : Waiting). x.receivers) rest

  same_channels : after_w.channels ≡ w.channels
  same_channels = ap (λ (x : Waiting). x.channels) rest

  alike_there : AreAlike after_w.receivers after_w.channels after
  alike_there = record {
    rows = λ l there. rows l ∙ known.alike.rows l (omega (arith, there, many)) ∙ sym same_receivers;
    columns = λ l r there at. channels l r ∙ known.alike.columns l r (omega (arith, there, many)) (omega (arith, at, same_receivers)) ∙ sym same_channels;
  }

  -- where each sender from which something waits now is noted
  pub now_noted : IsEven w.sets after_w.senders → length w.senders.columns.items ≤ length after_w.senders.columns.items
      → ((set l : ℕ) → has after_w.senders set l ≡ 1 → l < length after)
      → (1 < length before → (l r c : ℕ) → l < length after → 0 < length (queue_from after r c l) → has after_w.senders (set_of w r c) l ≡ 1)
      → KnowsWaiting after_w after
  now_noted even columns there noted = record {
    alike = alike_there;
    sets = same_sets ∙ known.sets ∙ ap₂ (λ a b. a * b) (sym same_receivers) (sym same_channels);
    fits = omega (arith, known.fits, same_sets);
    even = subst (λ n. IsEven n after_w.senders) (sym same_sets) even;
    room = λ several. let old = known.room (omega (arith, several, many)) in omega (arith, old, many, columns);
    there = there;
    noted = λ several l r c inside some. ap (λ s. has after_w.senders s l) (same_set r c) ∙ noted (omega (arith, several, many)) l r c inside some;
  }

  module _ (receiver channel sender : ℕ) where
    -- something may have come from a sender that is noted now
    pub put_noted : IsBitChanged 1 (set_of w receiver channel) sender w.senders after_w.senders → sender < length after
        → ((l r c : ℕ) → 0 < length (queue_from after r c l)
        → (0 < length (queue_from before r c l)) ⊎ ((l ≡ sender) × (r ≡ receiver) × (c ≡ channel)))
        → KnowsWaiting after_w after
    put_noted changed inside came =
        now_noted (even_still w.sets 1 _ sender w.senders after_w.senders changed known.even) (omega (arith, changed.columns))
        (λ s l is. elim (cases_eq l sender) [
          | inl e ↦ omega (arith, e, inside)
          | inr d ↦ let old = known.there s l (sym (changed.elsewhere s l (inr d)) ∙ is) in omega (arith, old, many)
        ])
        (λ several l r c there some. elim (came l r c some) [
          | inl old ↦ stays_member _ sender w.senders after_w.senders changed (set_of w r c) l
              (known.noted several l r c (omega (arith, there, many)) old)
          | inr e ↦ ap (λ n. has after_w.senders (set_of w r c) n) e.0
              ∙ ap₂ (λ a b. has after_w.senders (set_of w a b) sender) e.1 e.2 ∙ changed.here
        ])

    -- nothing is left of a sender that is noted no more
    module _ (changed : IsBitChanged 0 (set_of w receiver channel) sender w.senders after_w.senders) (empty : queue_from after receiver channel sender ≡ [])
        (within : channel < w.channels) (fewer : (l r c : ℕ) → 0 < length (queue_from after r c l) → 0 < length (queue_from before r c l)) where
      other : (l r c : ℕ) → l < length after → 0 < length (queue_from after r c l) → (set_of w r c ≢ set_of w receiver channel) ⊎ (l ≢ sender)
      other l r c there some = elim (cases_eq l sender) [
        | inr d ↦ inr d
        | inl e ↦ inl (λ same.
            let inside = queue_inside (sender_of l after).messages.queues r c some in
            let old = set_within w before known l r c (omega (arith, there, many)) (omega (arith, inside.0, rows l)) (omega (arith, inside.1, channels l r)) in
            let place = same_from_place r c receiver channel w.channels old.0 within same in
            let none : queue_from after r c l ≡ [] = ap (λ n. queue_from after r c n) e ∙ ap₂ (λ a b. queue_from after a b sender) place.0 place.1 ∙ empty in
            let no : 0 < 0 = subst (λ q. 0 < length q) none some in
            omega (arith, no))
      ]

      pub gone_noted : KnowsWaiting after_w after
      gone_noted =
          now_noted (even_still w.sets 0 _ sender w.senders after_w.senders changed known.even) (omega (arith, changed.columns))
          (λ s l is. let old = known.there s l (elim (cases_apart s (set_of w receiver channel) l sender) [
            | inl e ↦ absurd (let zero : has after_w.senders s l ≡ 0 = ap₂ (has after_w.senders) e.0 e.1 ∙ changed.here in omega (arith, zero, is))
            | inr d ↦ sym (changed.elsewhere s l d) ∙ is
          ]) in omega (arith, old, many))
          (λ several l r c there some. changed.elsewhere (set_of w r c) l (other l r c there some)
          ∙ known.noted several l r c (omega (arith, there, many)) (fewer l r c some))

-- a sender is noted for one server after another
module _ {K : Type 0} (count : ℕ) (servers : List (ServerPort K)) (sender : ℕ) where
  pub noted_none : (w : Waiting) → AreNotedBelow 0 count servers sender w w
  noted_none w = record {
    here = λ several i s lt. absurd (omega (arith, lt));
    kept = λ set l is. is;
    only = λ set l is. inl is;
    places = λ set i h. h;
    columns = refl;
    rest = refl;
  }

  module _ (w now next : Waiting) (n : ℕ) (so : AreNotedBelow n count servers sender w now) (s : ServerPort K) (at : slice_get servers n ≡ Some s)
      (noted : IsNotedAmong count s.port.receiver 0 sender now next) where
    kept_next : (set l : ℕ) → has now.senders set l ≡ 1 → has next.senders set l ≡ 1
    kept_next set l is = elim (cases_lt 1 count) [
      | inl several ↦ stays_member _ sender now.senders next.senders (noted.several several) set l is
      | inr one ↦ ap (λ (v : Waiting). has v.senders set l) (noted.alone one) ∙ is
    ]

    same_there : (r c : ℕ) → set_of now r c ≡ set_of w r c
    same_there r c = ap (λ (v : Waiting). r * v.channels + c) so.rest

    pub noted_more : AreNotedBelow (n + 1) count servers sender w next
    noted_more = record {
      here = λ several i t lt is. elim (cases_lt i n) [
        | inl before ↦ kept_next (set_of w t.port.receiver 0) sender (so.here several i t before is)
        | inr le ↦
            let same : s ≡ t = some_same s t (sym at ∙ ap (slice_get servers) (let e : n ≡ i = omega (arith, le, lt) in e) ∙ is) in
            subst (λ (u : ServerPort K). has next.senders (set_of w u.port.receiver 0) sender ≡ 1) same
            (ap (λ set. has next.senders set sender) (sym (same_there s.port.receiver 0)) ∙ (noted.several several).here)
      ];
      kept = λ set l is. kept_next set l (so.kept set l is);
      only = λ set l is. elim (cases_lt 1 count) [
        | inl several ↦ elim (cases_eq l sender) [
          | inl e ↦ inr e
          | inr d ↦ so.only set l (sym ((noted.several several).elsewhere set l (inr d)) ∙ is)
        ]
        | inr one ↦ so.only set l (ap (λ (v : Waiting). has v.senders set l) (sym (noted.alone one)) ∙ is)
      ];
      places = λ set i h. elim (cases_lt 1 count) [
        | inl several ↦ ((noted.several several).places set i).0 (so.places set i h)
        | inr one ↦ subst (λ (v : Waiting). HasWord v.senders set i) (sym (noted.alone one)) (so.places set i h)
      ];
      columns = elim (cases_lt 1 count) [
        | inl several ↦ (noted.several several).columns ∙ so.columns
        | inr one ↦ ap (λ (v : Waiting). length v.senders.columns.items) (noted.alone one) ∙ so.columns
      ];
      rest = noted.rest ∙ ap (λ (v : Waiting). record v { senders = next.senders }) so.rest;
    }
      where
        some_same : (a b : ServerPort K) → ◌≡◌ {A = Option (ServerPort K)} (Some a) (Some b) → a ≡ b
        some_same a b e = cc

  -- each has its place still
  pub place_still : (w now : Waiting) (n : ℕ) → AreNotedBelow n count servers sender w now → (r : ℕ) → HasPlace w r 0 sender → HasPlace now r 0 sender
  place_still w now n so r place =
      let same : set_of w r 0 ≡ set_of now r 0 = ap (λ (v : Waiting). r * v.channels + 0) (sym so.rest) in
      (omega (arith, place.0, same), subst (λ set. HasWord now.senders set (sender / 64)) same (so.places (set_of w r 0) (sender / 64) place.1))

-- a queue that is there has a set with room for its sender
pub has_place : {T N H : Type 0} (w : Waiting) (senders : List (Sender T N H)) → KnowsWaiting w senders → 1 < length senders → (receiver channel l : ℕ)
    → l < length senders → receiver < length (sender_of l senders).messages.queues
    → channel < length (slice_index_or (sender_of l senders).messages.queues receiver [])
    → HasPlace w receiver channel l
has_place w senders known several receiver channel l there row column =
    let set = set_within w senders known l receiver channel there row column in
    let room = known.room several in
    (omega (arith, set.1, known.fits), known.even (set_of w receiver channel) (l / 64) set.1 (omega (arith, there, room)))

-- From which senders something may wait stays known where one queue changes.
use Rattle.std.proofs.Common.{◌≡◌, ◌≢◌, ◌⊎◌, inl, inr, ℕ, ◌<◌, ◌≤◌, List, [], length, map, get_or, refl, sym, ap, ap₂, subst, ◌∙◌, arith}
use Rattle.std.specs.Prelude.{slice_set, slice_index_or}
use Rattle.std.proofs.lemmas.Bool.{cases_eq, cases_lt}
use Rattle.std.proofs.lemmas.List.{get_or-set_other, get_or-set_same, length-set}
use Rattle.rr_sender.specs.BitSets.{IsBitChanged, has}
use Rattle.rr_sender.specs.Senders.{at_two, set_two}
use Rattle.rr_sender.proofs.EntryLaws.{at_two-set_two, length-set_two}
use Rattle.rr_store.specs.KnownWaiting.{IsNotedAmong, KnowsWaiting, set_of}
use Rattle.rr_store.specs.declared.port.OwnedSender.{OwnedSender}
use Rattle.rr_store.specs.declared.side.waiting.Waiting.{Waiting}
use Rattle.rr_store.specs.Parts.{Sender}
use Rattle.rr_store.specs.Ports.{sender_part}
use Rattle.rr_store.specs.Receiving.{queue_from}
use Rattle.rr_store.specs.Views.{no_sender, sender_of}
use Rattle.rr_store.proofs.base.lists.Replaced.{map-set_one}
use Rattle.rr_store.proofs.base.lists.SetTwo.{other_column, other_row, row_length}
use Rattle.rr_store.proofs.base.senders.Stored.{stored_is}
use Rattle.rr_store.proofs.base.senders.Noted.{fewer_noted, now_noted, put_noted}

-- a sender of which one queue changed
module _ {B N H T : Type 0} (items : List (OwnedSender B N H T)) (sender : ℕ) (x y : OwnedSender B N H T) (there : sender < length (map sender_part items))
    (read : x ≡ get_or items sender x) (receiver channel : ℕ) (row : receiver < length x.messages.queues)
    (column : channel < length (slice_index_or x.messages.queues receiver [])) (queue : List ℕ)
    (is : y.messages.queues ≡ set_two x.messages.queues receiver channel queue) where
  abbrev before : List (Sender T N H)
  before = map sender_part items

  abbrev after : List (Sender T N H)
  after = map sender_part (slice_set items sender y)

  set_is : after ≡ slice_set before sender (sender_part y)
  set_is = map-set_one sender_part items sender y

  many_same : length after ≡ length before
  many_same = ap length set_is ∙ length-set before sender (sender_part y)

  -- the queues of each sender, of which one changed
  queues_here : (sender_of sender after).messages.queues ≡ set_two (sender_of sender before).messages.queues receiver channel queue
  queues_here = ap (λ (ls : List (Sender T N H)). (sender_of sender ls).messages.queues) set_is
      ∙ ap (λ (s : Sender T N H). s.messages.queues) (get_or-set_same before sender (sender_part y) no_sender there) ∙ is
      ∙ ap (λ (s : Sender T N H). set_two s.messages.queues receiver channel queue) (sym (stored_is items sender x there read))

  queues_there : (l : ℕ) → l ≢ sender → (sender_of l after).messages.queues ≡ (sender_of l before).messages.queues
  queues_there l d = ap (λ (ls : List (Sender T N H)). (sender_of l ls).messages.queues) set_is
      ∙ ap (λ (s : Sender T N H). s.messages.queues) (get_or-set_other before sender l (sender_part y) no_sender d)

  row_there : receiver < length (sender_of sender before).messages.queues
  row_there = omega (arith, row, ap (λ (s : Sender T N H). length s.messages.queues) (stored_is items sender x there read))

  column_there : channel < length (slice_index_or (sender_of sender before).messages.queues receiver [])
  column_there = omega (arith, column, ap (λ (s : Sender T N H). length (slice_index_or s.messages.queues receiver [])) (stored_is items sender x there read))

  rows_same : (l : ℕ) → length (sender_of l after).messages.queues ≡ length (sender_of l before).messages.queues
  rows_same l = elim (cases_eq l sender) [
    | inl e ↦ ap (λ n. length (sender_of n after).messages.queues) e ∙ ap length queues_here
        ∙ length-set_two (sender_of sender before).messages.queues receiver channel queue ∙ ap (λ n. length (sender_of n before).messages.queues) (sym e)
    | inr d ↦ ap length (queues_there l d)
  ]

  channels_same : (l r : ℕ) → length (slice_index_or (sender_of l after).messages.queues r []) ≡ length (slice_index_or (sender_of l before).messages.queues r [])
  channels_same l r = elim (cases_eq l sender) [
    | inl e ↦ ap (λ n. length (slice_index_or (sender_of n after).messages.queues r [])) e
        ∙ ap (λ (qs : List (List (List ℕ))). length (slice_index_or qs r [])) queues_here
        ∙ row_length (sender_of sender before).messages.queues receiver channel queue [] r
        ∙ ap (λ n. length (slice_index_or (sender_of n before).messages.queues r [])) (sym e)
    | inr d ↦ ap (λ (qs : List (List (List ℕ))). length (slice_index_or qs r [])) (queues_there l d)
  ]

  -- each queue but this one is as it was
  pub one_queue : (l r c : ℕ) → ((l ≡ sender) × (r ≡ receiver) × (c ≡ channel)) ⊎ (queue_from after r c l ≡ queue_from before r c l)
  one_queue l r c = elim (cases_eq l sender) [
    | inr d ↦ inr (ap (λ (qs : List (List (List ℕ))). at_two [] qs r c) (queues_there l d))
    | inl e ↦ elim (cases_eq r receiver) [
      | inr d ↦ inr (ap (λ n. queue_from after r c n) e ∙ ap (λ (qs : List (List (List ℕ))). at_two [] qs r c) queues_here
          ∙ other_row (sender_of sender before).messages.queues receiver channel queue [] r c d ∙ ap (λ n. queue_from before r c n) (sym e))
      | inl f ↦ elim (cases_eq c channel) [
        | inl g ↦ inl (e, f, g)
        | inr d ↦ inr (ap (λ n. queue_from after r c n) e ∙ ap (λ t. queue_from after t c sender) f
            ∙ ap (λ (qs : List (List (List ℕ))). at_two [] qs receiver c) queues_here
            ∙ other_column (sender_of sender before).messages.queues receiver channel queue [] row_there c d
            ∙ ap (λ t. queue_from before t c sender) (sym f) ∙ ap (λ n. queue_from before r c n) (sym e))
      ]
    ]
  ]

  pub this_queue : queue_from after receiver channel sender ≡ queue
  this_queue = ap (λ (qs : List (List (List ℕ))). at_two [] qs receiver channel) queues_here
      ∙ at_two-set_two [] (sender_of sender before).messages.queues receiver channel row_there column_there queue

  -- it has no entry where there was none
  pub queue_less : (w : Waiting) → length queue ≤ length (at_two [] x.messages.queues receiver channel) → KnowsWaiting w before → KnowsWaiting w after
  queue_less w less known = fewer_noted w before after known many_same rows_same channels_same (λ l r c some. elim (one_queue l r c) [
    | inr same ↦ subst (λ q. 0 < length q) same some
    | inl e ↦
        let now : queue_from after r c l ≡ queue = ap (λ n. queue_from after r c n) e.0 ∙ ap₂ (λ a b. queue_from after a b sender) e.1 e.2 ∙ this_queue in
        let old : queue_from before r c l ≡ at_two [] x.messages.queues receiver channel =
        ap (λ n. queue_from before r c n) e.0 ∙ ap₂ (λ a b. queue_from before a b sender) e.1 e.2
        ∙ ap (λ (s : Sender T N H). at_two [] s.messages.queues receiver channel) (stored_is items sender x there read) in
        omega (arith, some, less, ap length now, ap length old)
  ])

  -- or its sender is noted
  pub queue_put : (w after_w : Waiting) → after_w ≡ record w { senders = after_w.senders }
      → IsBitChanged 1 (set_of w receiver channel) sender w.senders after_w.senders → KnowsWaiting w before → KnowsWaiting after_w after
  queue_put w after_w rest changed known =
      put_noted w after_w before after known many_same rows_same channels_same rest receiver channel sender changed (omega (arith, there, many_same))
      (λ l r c some. elim (one_queue l r c) [ inr same ↦ inl (subst (λ q. 0 < length q) same some) | inl e ↦ inr e ])

  -- or there is one sender alone
  pub queue_alone : (w : Waiting) → length before ≤ 1 → KnowsWaiting w before → KnowsWaiting w after
  queue_alone w alone known =
      now_noted w w before after known many_same rows_same channels_same refl known.even (omega arith)
      (λ set l is. let old = known.there set l is in omega (arith, old, many_same))
      (λ several l r c inside some. absurd (omega (arith, several, alone)))

  -- in either case
  pub queue_among : (w after_w : Waiting) (count : ℕ) → count ≡ length before → IsNotedAmong count receiver channel sender w after_w
      → KnowsWaiting w before → KnowsWaiting after_w after
  queue_among w after_w count many noted known = elim (cases_lt 1 count) [
    | inl several ↦ queue_put w after_w noted.rest (noted.several several) known
    | inr one ↦ subst (λ v. KnowsWaiting v after) (sym (noted.alone one)) (queue_alone w (omega (arith, one, many)) known)
  ]

-- From which senders something may wait stays known where queues lose entries.
use Rattle.std.proofs.Common.{◌≡◌, inl, inr, ℕ, ◌<◌, ◌≤◌, List, [], length, map, get_or, refl, sym, ap, ap₂, subst, subst₂, ◌∙◌, arith}
use Rattle.std.specs.Prelude.{slice_set, slice_index_or}
use Rattle.std.proofs.lemmas.Bool.{cases_eq}
use Rattle.std.proofs.lemmas.List.{get_or-set_other, get_or-set_same, length-set}
use Rattle.rr_sender.specs.Senders.{at_two, set_two}
use Rattle.rr_sender.proofs.EntryLaws.{at_two-set_two, length-set_two}
use Rattle.rr_store.specs.KnownWaiting.{KnowsWaiting}
use Rattle.rr_store.specs.declared.port.OwnedSender.{OwnedSender}
use Rattle.rr_store.specs.declared.side.waiting.Waiting.{Waiting}
use Rattle.rr_store.specs.Parts.{Sender}
use Rattle.rr_store.specs.Ports.{sender_part}
use Rattle.rr_store.specs.Views.{no_sender, sender_of}
use Rattle.rr_store.proofs.base.lists.Replaced.{map-set_one}
use Rattle.rr_store.proofs.base.lists.SetTwo.{other_column, other_row, row_length}
use Rattle.rr_store.proofs.base.senders.Stored.{stored_is}
use Rattle.rr_store.proofs.base.senders.Noted.{fewer_noted}

-- queues of which none has an entry that had none
pub record IsFewer (old new : List (List (List ℕ))) : Type 0 where
  pub rows : length new ≡ length old
  pub channels : (r : ℕ) → length (slice_index_or new r []) ≡ length (slice_index_or old r [])
  pub fewer : (r c : ℕ) → 0 < length (at_two [] new r c) → 0 < length (at_two [] old r c)

pub fewer_same : (q : List (List (List ℕ))) → IsFewer q q
fewer_same q = record { rows = refl; channels = λ r. refl; fewer = λ r c some. some }

pub fewer_twice : (a b c : List (List (List ℕ))) → IsFewer a b → IsFewer b c → IsFewer a c
fewer_twice a b c first then = record {
  rows = then.rows ∙ first.rows;
  channels = λ r. then.channels r ∙ first.channels r;
  fewer = λ r n some. first.fewer r n (then.fewer r n some);
}

-- one of them became shorter
pub fewer_set : (q : List (List (List ℕ))) (i j : ℕ) (queue : List ℕ) → i < length q → j < length (slice_index_or q i [])
    → length queue ≤ length (at_two [] q i j) → IsFewer q (set_two q i j queue)
fewer_set q i j queue row column less = record {
  rows = length-set_two q i j queue;
  channels = λ r. row_length q i j queue [] r;
  fewer = λ r c some. elim (cases_eq r i) [
    | inr d ↦ subst (λ x. 0 < length x) (other_row q i j queue [] r c d) some
    | inl e ↦ elim (cases_eq c j) [
      | inr d ↦ subst (λ x. 0 < length x)
          (ap (λ n. at_two [] (set_two q i j queue) n c) e ∙ other_column q i j queue [] row c d ∙ ap (λ n. at_two [] q n c) (sym e)) some
      | inl f ↦
          let now : at_two [] (set_two q i j queue) r c ≡ queue = ap₂ (at_two [] (set_two q i j queue)) e f ∙ at_two-set_two [] q i j row column queue in
          omega (arith, some, less, ap length now, ap length (ap₂ (at_two [] q) e f))
    ]
  ];
}

-- so it is of all senders, or of one
pub senders_fewer : {T N H : Type 0} (w : Waiting) (before after : List (Sender T N H)) → length after ≡ length before
    → ((l : ℕ) → IsFewer (sender_of l before).messages.queues (sender_of l after).messages.queues) → KnowsWaiting w before → KnowsWaiting w after
senders_fewer w before after many each known =
    fewer_noted w before after known many (λ l. (each l).rows) (λ l. (each l).channels) (λ l r c. (each l).fewer r c)

module _ {B N H T : Type 0} (w : Waiting) (items : List (OwnedSender B N H T)) (sender : ℕ) (x y : OwnedSender B N H T)
    (there : sender < length (map sender_part items)) (read : x ≡ get_or items sender x) (fewer : IsFewer x.messages.queues y.messages.queues) where
  abbrev all : List (Sender T N H)
  all = map sender_part items

  abbrev left : List (Sender T N H)
  left = slice_set all sender (sender_part y)

  each_fewer : (l : ℕ) → IsFewer (sender_of l all).messages.queues (sender_of l left).messages.queues
  each_fewer l = elim (cases_eq l sender) [
    | inl e ↦ subst (λ n. IsFewer (sender_of n all).messages.queues (sender_of n left).messages.queues) (sym e)
        (subst₂ (λ (a b : Sender T N H). IsFewer a.messages.queues b.messages.queues) (sym (stored_is items sender x there read))
        (sym (get_or-set_same all sender (sender_part y) no_sender there)) fewer)
    | inr d ↦ subst (λ (s : Sender T N H). IsFewer (sender_of l all).messages.queues s.messages.queues)
        (sym (get_or-set_other all sender l (sender_part y) no_sender d)) (fewer_same (sender_of l all).messages.queues)
  ]

  pub sender_fewer : KnowsWaiting w all → KnowsWaiting w (map sender_part (slice_set items sender y))
  sender_fewer known =
      subst (KnowsWaiting w) (sym (map-set_one sender_part items sender y))
      (senders_fewer w all left (length-set all sender (sender_part y)) each_fewer known)

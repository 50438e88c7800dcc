-- A sender from which nothing was sent, and a list of senders, or of rows, in which it has its place.
use Rattle.std.proofs.Common.{◌≡◌, ◌≢◌, ◌<◌, ℕ, Bool, true, List, [], Some, length, get_or, replicate, refl, sym, ap, ◌∙◌, subst, ⊎_elim, arith}
use Rattle.std.specs.Prelude.{◌==◌, ◌&&◌, slice_index}
use Rattle.std.specs.Ordering.{nat_cmp}
use Rattle.std.specs.FinMap as fin_map
use Rattle.std.proofs.lemmas.Bool.{cases_lt, cases_eq, eqb-true, and_parts}
use Rattle.std.proofs.lemmas.List.{get_or_past, get_or-replicate, length-replicate}
use Rattle.rr_table.specs.Maps.{tally}
use Rattle.rr_table.specs.TableView.{TableEntry}
use Rattle.rr_table.specs.declared.place.Place.{Place}
use Rattle.rr_sender.specs.Senders.{Messages, at_two, queue_at, borrowed_at, all_entries, times, uses}
use Rattle.rr_sender.proofs.EntryLaws.{times-empty}
use Rattle.rr_store.specs.declared.handle_entry.HandleEntry.{HandleEntry}
use Rattle.rr_store.specs.declared.handle_entry.Stage.{Stage}
use Rattle.rr_store.specs.Parts.{Sender}
use Rattle.rr_store.specs.Views.{sender_of}
use Rattle.rr_store.specs.Creating.{IsNew}
use Rattle.rr_store.proofs.base.lists.Tallies.{tally-never}

-- every place of a list of the same is like the default
pub same_everywhere : {X : Type 0} (n i : ℕ) (x : X) → get_or (replicate n x) i x ≡ x
same_everywhere n i x =
    ⊎_elim (λ h. get_or-replicate n i x x h) (λ h. get_or_past (replicate n x) i x (omega (arith, h, length-replicate n x))) (cases_lt i n)

-- and of a list of such lists
pub two_everywhere : {X : Type 0} (n m i j : ℕ) (x : X) → at_two x (replicate n (replicate m x)) i j ≡ x
two_everywhere {X} n m i j x =
    ⊎_elim
    (λ h. ap (λ (xs : List X). get_or xs j x) (get_or-replicate n i (replicate m x) [] h) ∙ same_everywhere m j x)
    (λ h. ap (λ (xs : List X). get_or xs j x) (get_or_past (replicate n (replicate m x)) i
    [] (omega (arith, h, length-replicate n (replicate m x)))))
    (cases_lt i n)

module _ {T N H : Type 0} where
  -- nothing waits in a new sender, and nothing was received
  pub new_queue : {slots room receivers channels capacity : ℕ} {details : N} (m : Messages T N H)
      → IsNew slots room receivers channels capacity details m → (r c : ℕ) → queue_at m r c ≡ []
  new_queue {receivers = receivers} {channels = channels} m new r c = ap (λ (q : List (List (List ℕ))). at_two [] q r c) new.queues
      ∙ two_everywhere receivers channels r c []

  pub new_borrowed : {slots room receivers channels capacity : ℕ} {details : N} (m : Messages T N H)
      → IsNew slots room receivers channels capacity details m → (r c : ℕ) → borrowed_at m r c ≡ 0
  new_borrowed {receivers = receivers} {channels = channels} m new r c = ap (λ (q : List (List ℕ)). at_two 0 q r c) new.borrowed
      ∙ two_everywhere receivers channels r c 0

  -- it has as many slots as it was given
  pub new_slots : {slots room receivers channels capacity : ℕ} {details : N} {m : Messages T N H}
      → IsNew slots room receivers channels capacity details m → length m.held ≡ slots
  new_slots {slots = slots} new = ap length new.held ∙ length-replicate slots 0

  -- the same sender has the same place for a slot
  pub same_place : (slot : ℕ) {a b : Sender T N H} → a ≡ b
      → ◌≡◌ {A = Place} (record { row = a.row; index = slot }) (record { row = b.row; index = slot })
  same_place slot same = ap (λ (l : Sender T N H). record { row = l.row; index = slot }) same

-- two lists of senders show the same of every slot that is used, and the same queues
pub record LooksLike {T N H : Type 0} (old new : List (Sender T N H)) : Type 0 where
  pub held : (l i : ℕ) → slice_index (sender_of l new).messages.held i ≡ slice_index (sender_of l old).messages.held i
  pub queues : (l r c : ℕ) → queue_at (sender_of l new).messages r c ≡ queue_at (sender_of l old).messages r c
  pub used : (l i : ℕ) → uses (sender_of l new).messages i ≡ uses (sender_of l old).messages i
  pub noted : (l i : ℕ) (d : N) → 0 < uses (sender_of l old).messages i
      → get_or (sender_of l new).messages.details i d ≡ get_or (sender_of l old).messages.details i d
  pub owned : (l i : ℕ) → 0 < uses (sender_of l old).messages i → (sender_of l new).owner ≡ (sender_of l old).owner

-- nothing uses a sender, and nothing waits in it
pub record IsIdle {T N H : Type 0} (m : Messages T N H) : Type 0 where
  pub used : (i : ℕ) → uses m i ≡ 0
  pub queues : (r c : ℕ) → queue_at m r c ≡ []

-- the sender at an index is a new one, in the place of one that nothing uses, or of none; and the others are as they were
pub record IsPut {T N H : Type 0} (index : ℕ) (new : Sender T N H) (senders after : List (Sender T N H)) : Type 0 where
  pub there : index < length after
  pub here : sender_of index after ≡ new
  pub idle : IsIdle (sender_of index senders).messages
  pub others : (l : ℕ) → l ≢ index → sender_of l after ≡ sender_of l senders
  pub stay : (l : ℕ) → l < length senders → l < length after
  pub known : (l : ℕ) → l ≢ index → l < length after → l < length senders

-- a row has so many places, and the others are as they were
pub record IsRowed (row len : ℕ) (rows after : List ℕ) : Type 0 where
  pub there : row < length after
  pub here : slice_index after row ≡ len
  pub others : (r : ℕ) → r ≢ row → r < length rows → (r < length after) × (slice_index after r ≡ slice_index rows r)

-- a row that was there stays
pub row_stays : {row len : ℕ} {rows after : List ℕ} → IsRowed row len rows after → (r slots : ℕ) → r ≢ row
    → (r < length rows) × (slice_index rows r ≡ slots) → (r < length after) × (slice_index after r ≡ slots)
row_stays rowed r slots other is = let o = rowed.others r other is.0 in (o.0, o.1 ∙ is.1)

-- no handle is in a sender
pub none_in : (entries : fin_map.FinMap nat_cmp (TableEntry HandleEntry)) (sender : ℕ) (test : Stage → Bool)
    → ((k : ℕ) (s : TableEntry HandleEntry) → fin_map.get entries k ≡ Some s → test s.value.stage ≡ true → s.value.sender ≢ sender)
    → tally (λ s. test s.value.stage && s.value.sender == sender) entries ≡ 0
none_in entries sender test other =
    tally-never entries (λ s. test s.value.stage && s.value.sender == sender) (λ k s at t.
    let both = and_parts (test s.value.stage) (s.value.sender == sender) t in
    other k s at both.0 (eqb-true s.value.sender sender both.1))

module _ {T N H : Type 0} {index : ℕ} {new : Sender T N H} {senders after : List (Sender T N H)} (put : IsPut index new senders after) where
  -- a sender is as it was, or the new one
  pub sender_cases : {Z : Type 0} (l : ℕ) → (l ≢ index → sender_of l after ≡ sender_of l senders → Z)
      → (l ≡ index → sender_of l after ≡ new → Z) → Z
  sender_cases l before fresh =
      ⊎_elim (λ e. fresh e (ap (λ k. sender_of k after) e ∙ put.here)) (λ n. before n (put.others l n)) (cases_eq l index)

  -- what the new sender shows as the one before it did, all show as before
  pub same_shown : {Z : Type 0} (shown : Sender T N H → Z) → shown new ≡ shown (sender_of index senders)
      → (l : ℕ) → shown (sender_of l after) ≡ shown (sender_of l senders)
  same_shown shown same l =
      sender_cases l (λ n e. ap shown e) (λ e is. ap shown is ∙ same ∙ ap (λ k. shown (sender_of k senders)) (sym e))

  -- a sender that counts something, as the one before the new one does not, stays
  pub same_sender : (count : Sender T N H → ℕ) → count (sender_of index senders) ≡ 0 → (l : ℕ) → 0 < count (sender_of l senders)
      → sender_of l after ≡ sender_of l senders
  same_sender count none l some =
      sender_cases l (λ n e. e) (λ e is. absurd (omega (arith, some, none, ap (λ k. count (sender_of k senders)) e)))

  -- what is so of each other sender, and of the new one in its place, is so of all
  pub each_other : (P : ℕ → Sender T N H → Type 0) → ((l : ℕ) → l ≢ index → l < length senders → P l (sender_of l senders)) → P index new
      → (l : ℕ) → l < length after → P l (sender_of l after)
  each_other P old fresh l h =
      sender_cases l
      (λ n e. subst (P l) (sym e) (old l n (put.known l n h)))
      (λ e is. subst (P l) (sym is) (subst (λ k. P k new) (sym e) fresh))

  pub each_added : (P : ℕ → Sender T N H → Type 0) → ((l : ℕ) → l < length senders → P l (sender_of l senders)) → P index new
      → (l : ℕ) → l < length after → P l (sender_of l after)
  each_added P old = each_other P (λ l _ h. old l h)

  -- what each sender counts is what there is, also for the new one, which has nothing
  pub count_added : (count : Sender T N H → ℕ) (has : ℕ → ℕ) → count new ≡ 0 → has index ≡ 0
      → ((l : ℕ) → l < length senders → count (sender_of l senders) ≡ has l)
      → (l : ℕ) → l < length after → count (sender_of l after) ≡ has l
  count_added count has none nobody old = each_added (λ l x. count x ≡ has l) old (none ∙ sym nobody)

  -- a number that no two senders share, and no other shares with the new one, is shared by none
  pub apart_added : (number : Sender T N H → ℕ)
      → ((l : ℕ) → l ≢ index → l < length senders → number (sender_of l senders) ≢ number new)
      → ((l k : ℕ) → l < length senders → k < length senders → number (sender_of l senders) ≡ number (sender_of k senders) → l ≡ k)
      → (l k : ℕ) → l < length after → k < length after → number (sender_of l after) ≡ number (sender_of k after) → l ≡ k
  apart_added number differs old l k h g =
      each_other (λ l x. number x ≡ number (sender_of k after) → l ≡ k)
      (λ l n b. each_other (λ k y. number (sender_of l senders) ≡ number y → l ≡ k) (λ k _ a. old l k b a)
      (λ same. absurd (differs l n b same)) k g)
      (each_other (λ k y. number new ≡ number y → index ≡ k)
      (λ k n b same. absurd (differs k n b (sym same))) (λ same. refl) k g) l h

  module _ {slots room receivers channels capacity : ℕ} {details : N}
      (is : IsNew slots room receivers channels capacity details new.messages) where
    -- each sender has a row of its width, also the new one
    pub rows_added : (width : ℕ → ℕ) {rows rows_after : List ℕ} → IsRowed new.row (width slots) rows rows_after
        → ((l : ℕ) → l ≢ index → l < length senders → (sender_of l senders).row ≢ new.row)
        → ((l : ℕ) → l < length senders → ((sender_of l senders).row < length rows)
        × (slice_index rows (sender_of l senders).row ≡ width (length (sender_of l senders).messages.held)))
        → (l : ℕ) → l < length after
        → ((sender_of l after).row < length rows_after)
        × (slice_index rows_after (sender_of l after).row ≡ width (length (sender_of l after).messages.held))
    rows_added width {rows} {rows_after} rowed alone old =
        each_other (λ l x. (x.row < length rows_after) × (slice_index rows_after x.row ≡ width (length x.messages.held)))
        (λ l n h. row_stays rowed (sender_of l senders).row (width (length (sender_of l senders).messages.held)) (alone l n h) (old l h))
        (rowed.there, rowed.here ∙ ap width (sym (new_slots is)))

    -- nothing is used in the new sender
    new_held : (i : ℕ) → slice_index new.messages.held i ≡ 0
    new_held i = ap (λ (h : List ℕ). slice_index h i) is.held ∙ same_everywhere slots i 0

    new_unused : (i : ℕ) → uses new.messages i ≡ 0
    new_unused i = omega (
      arith,
      new_held i,
      ap (λ (q : List (List (List ℕ))). times i (all_entries q)) is.queues,
      times-empty i receivers channels,
    )

    -- where nothing waited, and nothing was received, nothing does
    pub vacant_added : (r c : ℕ)
        → ((l : ℕ) → (queue_at (sender_of l senders).messages r c ≡ []) × (borrowed_at (sender_of l senders).messages r c ≡ 0))
        → (l : ℕ) → (queue_at (sender_of l after).messages r c ≡ []) × (borrowed_at (sender_of l after).messages r c ≡ 0)
    vacant_added r c old l =
        let Vacant : Sender T N H → Type 0 = λ x. (queue_at x.messages r c ≡ []) × (borrowed_at x.messages r c ≡ 0) in
        sender_cases l (λ n e. subst Vacant (sym e) (old l))
        (λ e at. subst Vacant (sym at) (new_queue new.messages is r c, new_borrowed new.messages is r c))

    pub looks_like : LooksLike senders after
    looks_like = record {
      held = λ l i. same_shown (λ x. slice_index x.messages.held i) (omega (arith, new_held i, put.idle.used i)) l;
      queues = λ l r c. same_shown (λ x. queue_at x.messages r c) (new_queue new.messages is r c ∙ sym (put.idle.queues r c)) l;
      used = λ l i. same_shown (λ x. uses x.messages i) (new_unused i ∙ sym (put.idle.used i)) l;
      noted = λ l i d some. ap (λ (x : Sender T N H). get_or x.messages.details i d)
          (same_sender (λ x. uses x.messages i) (put.idle.used i) l some);
      owned = λ l i some. ap (λ (x : Sender T N H). x.owner) (same_sender (λ x. uses x.messages i) (put.idle.used i) l some);
    }

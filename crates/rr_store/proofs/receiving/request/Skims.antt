-- Requests that nobody waits for leave the fronts of queues.
use Rattle.std.proofs.Common.{zero, suc, ◌≡◌, ◌<◌, ◌+◌, ℕ, Bool, true, false, List, [], ◌∷◌, ◌++◌, Option, None, Some, Ok, length, refl, sym, ap, ◌∙◌, subst, ⊎_elim, length-drop, arith}
use Rattle.std.specs.Prelude.{IfSome, Result, drop, slice_get, slice_set, slice_index_or}
use Rattle.std.proofs.lemmas.Bool.{cases_eq}
use Rattle.std.proofs.lemmas.List.{get_or-set_same, get_or-set_other, set-get_or, length-set}
use Rattle.std.proofs.lemmas.Option.{slice_get_within}
use Rattle.rr_table.specs.TableView.{TableView}
use Rattle.rr_protocol.specs.declared.error.ReceiveError.{ReceiveError}
use Rattle.rr_sender.specs.Senders.{at_two, queue_at, borrowed_at}
use Rattle.rr_sender.proofs.EntryLaws.{length-set_two}
use Rattle.rr_store.specs.declared.handle_entry.HandleEntry.{HandleEntry}
use Rattle.rr_store.specs.declared.details.RequestDetails.{RequestDetails}
use Rattle.rr_store.specs.Parts.{Sender}
use Rattle.rr_store.specs.Receiving.{borrowed_from, queue_from, IsLookedThrough, IsNextFrom, Reaches}
use Rattle.rr_store.specs.Skimming.{is_waited, first_skimmed, SkimsSender, IsFrontAlive, SkimsSenders, IsSkimmed, IsSkimmedTo, QueueSkimmed}
use Rattle.rr_store.specs.Sides.{SideParts}
use Rattle.rr_store.specs.Views.{sender_of, no_sender}
use Rattle.rr_store.proofs.base.lists.SetTwo.{row_length}
use Rattle.rr_store.proofs.base.senders.Fewer.{IsFewer, fewer_same, fewer_set, fewer_twice}
use Rattle.rr_store.proofs.base.senders.Noted.{queue_inside}
use Rattle.rr_store.proofs.receiving.NextSender.{looked_at_empty, empty_of}

-- an element that is set twice
set_again : {X : Type 0} (xs : List X) (i : ℕ) (x y : X) → slice_set (slice_set xs i x) i y ≡ slice_set xs i y
set_again [] i x y = refl
set_again (z ∷ xs) zero x y = refl
set_again (z ∷ xs) (suc i) x y = ap (λ ys. z ∷ ys) (set_again xs i x y)

module _ {T H : Type 0} (table : TableView HandleEntry) (receiver : ℕ) where
  -- what stays as requests leave the front
  pub record IsAlike (a b : Sender T RequestDetails H) : Type 0 where
    pub rows : length b.messages.queues ≡ length a.messages.queues
    pub row : length (slice_index_or b.messages.queues receiver []) ≡ length (slice_index_or a.messages.queues receiver [])
    pub borrowed : b.messages.borrowed ≡ a.messages.borrowed

  pub skim_alike : (n : ℕ) (a b : Sender T RequestDetails H) → SkimsSender table receiver n a b → IsAlike a b
  skim_alike zero a b e = subst (IsAlike a) (sym e) (record { rows = refl; row = refl; borrowed = refl })
  skim_alike (suc n) a b (slot, f, d, more) =
      let r = skim_alike n (first_skimmed receiver a) b more in
      record {
        rows = r.rows ∙ length-set_two a.messages.queues receiver 0 _;
        row = r.row ∙ row_length a.messages.queues receiver 0 _ [] receiver;
        borrowed = r.borrowed;
      }

  -- no queue has an entry that had none
  pub skims_fewer : (n : ℕ) (a b : Sender T RequestDetails H) → SkimsSender table receiver n a b → IsFewer a.messages.queues b.messages.queues
  skims_fewer zero a b e = subst (λ (s : Sender T RequestDetails H). IsFewer a.messages.queues s.messages.queues) (sym e) (fewer_same a.messages.queues)
  skims_fewer (suc n) a b (slot, f, d, more) =
      let inside = queue_inside a.messages.queues receiver 0 (slice_get_within (queue_at a.messages receiver 0) 0 slot f) in
      fewer_twice a.messages.queues (first_skimmed receiver a).messages.queues b.messages.queues
      (fewer_set a.messages.queues receiver 0 (drop 1 (queue_at a.messages receiver 0)) inside.0 inside.1
      (omega (arith, length-drop 1 (queue_at a.messages receiver 0))))
      (skims_fewer n (first_skimmed receiver a) b more)

  -- the queue is there
  pub skim_reach : (n : ℕ) (a b : Sender T RequestDetails H) → SkimsSender table receiver n a b → receiver < length a.messages.queues
      → 0 < length (slice_index_or a.messages.queues receiver [])
      → (receiver < length b.messages.queues) × (0 < length (slice_index_or b.messages.queues receiver []))
  skim_reach n a b steps there some =
      let alike = skim_alike n a b steps in
      (omega (arith, there, alike.rows), omega (arith, some, alike.row))

  -- also that of a side's sender
  pub skimmed_reach : {P : Type 0} (sender : ℕ) (old new : SideParts T RequestDetails H P) (b : Bool) → QueueSkimmed table receiver sender old new b
      → sender < length old.senders → receiver < length (sender_of sender old.senders).messages.queues
      → 0 < length (slice_index_or (sender_of sender old.senders).messages.queues receiver [])
      → (receiver < length (sender_of sender new.senders).messages.queues)
      × (0 < length (slice_index_or (sender_of sender new.senders).messages.queues receiver []))
  skimmed_reach sender old new b q there row column =
      subst (λ (s : Sender T RequestDetails H). (receiver < length s.messages.queues) × (0 < length (slice_index_or s.messages.queues receiver [])))
      (sym (ap (λ (s : SideParts T RequestDetails H _). sender_of sender s.senders) q.is ∙ get_or-set_same old.senders sender q.it no_sender there))
      (skim_reach q.steps (sender_of sender old.senders) q.it q.skims row column)

  -- one more leaves it
  pub skim_more : (n : ℕ) (a b : Sender T RequestDetails H) → SkimsSender table receiver n a b → (slot : ℕ)
      → slice_get (queue_at b.messages receiver 0) 0 ≡ Some slot → is_waited table b slot ≡ false
      → SkimsSender table receiver (suc n) a (first_skimmed receiver b)
  skim_more zero a b e slot f d = (
    slot,
    ap (λ (x : Sender T RequestDetails H). slice_get (queue_at x.messages receiver 0) 0) (sym e)
        ∙ f,
    ap (λ (x : Sender T RequestDetails H). is_waited table x slot) (sym e) ∙ d,
    ap (first_skimmed receiver) e,
  )
  skim_more (suc n) a b (first, g, h, more) slot f d = (first, g, h, skim_more n (first_skimmed receiver a) b more slot f d)

  -- what is told of the front
  pub front_of : (s : Sender T RequestDetails H) (front : Option ℕ) → slice_get (queue_at s.messages receiver 0) 0 ≡ front
      → IfSome front (λ slot. is_waited table s slot ≡ true) → IsFrontAlive table receiver s
  front_of s front is told = subst (λ o. IfSome o (λ slot. is_waited table s slot ≡ true)) (sym is) told

  module _ (most : ℕ) where
    -- what leaves the queue from one sender, as steps over all senders
    pub to_senders : (n : ℕ) (a : List (Sender T RequestDetails H)) (l : ℕ) → l < length a → borrowed_from a receiver 0 l < most
        → (x : Sender T RequestDetails H) → SkimsSender table receiver n (sender_of l a) x
        → (ls : List ℕ) × SkimsSenders table receiver most ls a (slice_set a l x)
    to_senders zero a l there few x e = ([], ap (slice_set a l) e ∙ set-get_or a l no_sender)
    to_senders (suc n) a l there few x (slot, f, d, more) =
        let y = first_skimmed receiver (sender_of l a) in
        let b = slice_set a l y in
        let is : sender_of l b ≡ y = get_or-set_same a l y no_sender there in
        let r = to_senders n b l (omega (arith, there, length-set a l y))
        (omega (arith, few, ap (λ (x : Sender T RequestDetails H). borrowed_at x.messages receiver 0) is)) x
        (subst (λ z. SkimsSender table receiver n z x) (sym is) more) in
        (l ∷ r.0, (slot, there, few, f, d, subst (SkimsSenders table receiver most r.0 b) (set_again a l y x) r.1))

    -- steps after steps
    pub then_more : (ls ms : List ℕ) (a b c : List (Sender T RequestDetails H)) → SkimsSenders table receiver most ls a b
        → SkimsSenders table receiver most ms b c → SkimsSenders table receiver most (ls ++ ms) a c
    then_more [] ms a b c e more = subst (λ a. SkimsSenders table receiver most ms a c) e more
    then_more (l ∷ ls) ms a b c (slot, there, few, f, d, first) more =
        (slot, there, few, f, d, then_more ls ms (slice_set a l (first_skimmed receiver (sender_of l a))) b c first more)

    -- before the first sender
    pub skimmed_none : (a : List (Sender T RequestDetails H)) → Reaches a receiver 0 → IsSkimmed table receiver most a a
    skimmed_none a reach = record { senders = []; steps = refl; many = refl; reaches = reach }

    -- the same senders, or others, were skimmed again
    pub skimmed_twice : (a b c : List (Sender T RequestDetails H)) → IsSkimmed table receiver most a b → IsSkimmed table receiver most b c
        → IsSkimmed table receiver most a c
    skimmed_twice a b c first more = record {
      senders = first.senders ++ more.senders;
      steps = then_more first.senders more.senders a b c first.steps more.steps;
      many = more.many ∙ first.many;
      reaches = more.reaches;
    }

    -- up to the one that is told then
    pub skimmed_then : (a b c : List (Sender T RequestDetails H)) (told : Result (Option ℕ) ReceiveError) → IsSkimmed table receiver most a b
        → IsSkimmedTo table receiver most b c told → IsSkimmedTo table receiver most a c told
    skimmed_then a b c told before after = record { skimmed = skimmed_twice a b c before after.skimmed; front = after.front }

    -- one sender was skimmed
    pub skimmed_sender : (n : ℕ) (a b : List (Sender T RequestDetails H)) → IsSkimmed table receiver most a b → n < length b
        → borrowed_from b receiver 0 n < most
        → (x : Sender T RequestDetails H) (k : ℕ) → SkimsSender table receiver k (sender_of n b) x
        → IsSkimmed table receiver most a (slice_set b n x)
    skimmed_sender n a b so there few x k steps =
        let more = to_senders k b n there few x steps in
        let alike = skim_alike k (sender_of n b) x steps in
        let here : sender_of n (slice_set b n x) ≡ x = get_or-set_same b n x no_sender there in
        record {
          senders = so.senders ++ more.0;
          steps = then_more so.senders more.0 a b (slice_set b n x) so.steps more.1;
          many = length-set b n x ∙ so.many;
          reaches = λ l h. ⊎_elim
              (λ e. let is : sender_of l (slice_set b n x) ≡ x = ap (λ l. sender_of l (slice_set b n x)) e ∙ here in
              let was = so.reaches n there in (
                omega (arith, was.0, alike.rows, ap (λ (y : Sender T RequestDetails H). length y.messages.queues) is),
                omega (
                  arith,
                  was.1,
                  alike.row,
                  ap (λ (y : Sender T RequestDetails H). length (slice_index_or y.messages.queues receiver [])) is,
                ),
              ))
              (λ e. let is : sender_of l (slice_set b n x) ≡ sender_of l b = get_or-set_other b n l x no_sender e in
              let was = so.reaches l (omega (arith, h, length-set b n x)) in (
                omega (arith, was.0, ap (λ (y : Sender T RequestDetails H). length y.messages.queues) is),
                omega (arith, was.1, ap (λ (y : Sender T RequestDetails H). length (slice_index_or y.messages.queues receiver [])) is),
              ))
              (cases_eq l n);
        }

-- a queue without its first entry is shorter
pub shorter : {X : Type 0} (xs ys : List X) (x : X) → ys ≡ drop 1 xs → slice_get xs 0 ≡ Some x → length ys < length xs
shorter [] ys x e f = absurd (let g : None ≡ Some x = f in cc)
shorter (y ∷ xs) ys x e f = omega (arith, ap length e)

-- or has none
pub no_front : {X : Type 0} (xs : List X) → slice_get xs 0 ≡ None → 0 < length xs → ⊥
no_front [] e h = omega (arith, h)
no_front (x ∷ xs) e h = let f : Some x ≡ None = e in cc

-- a sender is told once
told_is : (n m : ℕ) → (let told : ℕ → Result (Option ℕ) ReceiveError = λ l. Ok (Some l) in told n ≡ told m) → n ≡ m
told_is n m e = cc

-- none is told
none_told : (n : ℕ) → (let told : Option ℕ → Result (Option ℕ) ReceiveError = λ o. Ok o in told None ≡ told (Some n)) → ⊥
none_told n e = cc

-- a sender that is not looked through yet changes, and those before it stay
pub looked_apart : {T N H : Type 0} (senders : List (Sender T N H)) (receiver channel most from n : ℕ) (x : Sender T N H) (b : Bool)
    → IsLookedThrough senders receiver channel most from n b → IsLookedThrough (slice_set senders n x) receiver channel most from n b
looked_apart {T} {N} {H} senders receiver channel most from n x b so =
    let same : (l : ℕ) → l < n → sender_of l (slice_set senders n x) ≡ sender_of l senders = λ l h.
    get_or-set_other senders n l x no_sender (λ e. omega (arith, h, e)) in
    let queue : (l : ℕ) → l < n → queue_from (slice_set senders n x) receiver channel l ≡ queue_from senders receiver channel l = λ l h.
    ap (λ (s : Sender T N H). queue_at s.messages receiver channel) (same l h) in
    let count : (l : ℕ) → l < n → borrowed_from (slice_set senders n x) receiver channel l ≡ borrowed_from senders receiver channel l = λ l h.
    ap (λ (s : Sender T N H). borrowed_at s.messages receiver channel) (same l h) in
    record {
      passed = λ l f h room. queue l h ∙ so.passed l f h (omega (arith, room, count l h));
      clear = λ e l f h. queue l h ∙ so.clear e l f h;
      at_limit = λ e. let r = so.at_limit e in (
        r.0,
        r.1,
        omega (arith, r.2, length-set senders n x),
        omega (arith, r.3, count r.0 r.1),
        λ none. r.4 (sym (queue r.0 r.1) ∙ none),
      );
    }

module _ {T H : Type 0} (table : TableView HandleEntry) (receiver most from n : ℕ) (old now : List (Sender T RequestDetails H))
    (so : IsSkimmed table receiver most old now) (there : n < length now) (few : borrowed_from now receiver 0 n < most)
    (x : Sender T RequestDetails H) (k : ℕ) (steps : SkimsSender table receiver k (sender_of n now) x) where
  here : sender_of n (slice_set now n x) ≡ x
  here = get_or-set_same now n x no_sender there

  -- the next sender was skimmed
  pub skimmed_here : IsSkimmed table receiver most old (slice_set now n x)
  skimmed_here = skimmed_sender table receiver most n old now so there few x k steps

  -- and has no entry then
  pub passed_skimmed : (b : Bool) → IsLookedThrough now receiver 0 most from n b → (0 < length (queue_at x.messages receiver 0) → ⊥)
      → IsLookedThrough (slice_set now n x) receiver 0 most from (n + 1) b
  passed_skimmed b seen none =
      looked_at_empty (slice_set now n x) receiver 0 most from n b (looked_apart now receiver 0 most from n x b seen)
      (ap (λ (s : Sender T RequestDetails H). queue_at s.messages receiver 0) here ∙ empty_of _ none)

  -- or is next
  pub skimmed_next : 0 < length (queue_at x.messages receiver 0) → IsNextFrom from (slice_set now n x) receiver 0 most (Ok (Some n))
  skimmed_next some = (
    omega (arith, there, length-set now n x),
    omega (arith, some, ap (λ (s : Sender T RequestDetails H). length (queue_at s.messages receiver 0)) here),
    omega (
      arith,
      few,
      ap (λ (s : Sender T RequestDetails H). borrowed_at s.messages receiver 0) here,
      ap (λ counts. at_two 0 counts receiver 0) (skim_alike table receiver k (sender_of n now) x steps).borrowed,
    ),
  )

  pub skimmed_to : IsFrontAlive table receiver x → IsSkimmedTo table receiver most old (slice_set now n x) (Ok (Some n))
  skimmed_to alive = record {
    skimmed = skimmed_here;
    front = λ sender e. subst (IsFrontAlive table receiver) (sym (ap (λ l. sender_of l (slice_set now n x)) (sym (told_is n sender e)) ∙ here)) alive;
  }

  -- or has nothing then
  pub skimmed_empty : IsSkimmedTo table receiver most old (slice_set now n x) (Ok None)
  skimmed_empty = record { skimmed = skimmed_here; front = λ sender e. absurd (none_told sender e) }

-- A slot is put into the first queue of several receivers.
use Rattle.std.proofs.Common.{◌≡◌, ◌≢◌, ◌<◌, ◌≤◌, ◌+◌, ℕ, Bool, true, false, cond, List, [], ◌∷◌, ◌++◌, Some, length, get_or, map, refl, sym, ap, ◌∙◌, ⊎_elim, arith}
use Rattle.std.specs.Prelude.{not, drop, slice_get, nat_le}
use Rattle.std.proofs.lemmas.Bool.{cases_eq, cases_lt, le-leb, false≢true}
use Rattle.std.proofs.lemmas.List.{length-append, length-map, map-append, drop-map}
use Rattle.rr_sender.specs.Senders.{times, at_two, set_two, is_full, put}
use Rattle.rr_sender.proofs.EntryLaws.{mark, times-push, at_two-set_two, length-set_two}
use Rattle.rr_sender.proofs.StateLaws.{times-drop_le}
use Rattle.rr_protocol.specs.Sends as sends
use Rattle.rr_store.specs.Sending.{put_queues}
use Rattle.rr_store.proofs.base.lists.EachOnce.{IsApart, stays, passed_by, reached}
use Rattle.rr_store.proofs.base.lists.Replaced.{set_past}
use Rattle.rr_store.proofs.base.lists.SetTwo.{other_row, other_column, row_length}

module _ (overflow : Bool) (capacity slot : ℕ) where
  -- a slot comes at most once, and no other slot comes
  pub times_put : (i : ℕ) (queue : List ℕ) → times i (put overflow capacity queue slot) ≤ times i queue + mark slot i
  times_put i queue = go (is_full capacity queue) overflow
    where
      go : (full over : Bool) → times i (cond (not full) (queue ++ slot ∷ []) (cond over (drop 1 queue ++ slot ∷ []) queue)) ≤ times i queue
          + mark slot i
      go false over = omega (arith, times-push i queue slot)
      go true true = omega (arith, times-push i (drop 1 queue) slot, times-drop_le i 1 queue)
      go true false = omega arith

  -- a queue stays within its capacity
  pub length_put : (queue : List ℕ) → 0 < capacity → length queue ≤ capacity → length (put overflow capacity queue slot) ≤ capacity
  length_put queue some within = go (is_full capacity queue) overflow
      (λ e. ⊎_elim (λ l. l) (λ l. absurd (false≢true (sym e ∙ le-leb capacity (length queue) l))) (cases_lt (length queue) capacity))
    where
      push_one : (xs : List ℕ) → length (xs ++ slot ∷ []) ≡ length xs + 1
      push_one xs = length-append xs (slot ∷ [])

      dropped : (xs : List ℕ) → length xs ≤ capacity → length (drop 1 xs ++ slot ∷ []) ≤ capacity
      dropped [] h = omega (arith, some)
      dropped (x ∷ xs) h = omega (arith, push_one xs, h)

      go : (full over : Bool) → (full ≡ false → length queue < capacity)
          → length (cond (not full) (queue ++ slot ∷ []) (cond over (drop 1 queue ++ slot ∷ []) queue)) ≤ capacity
      go false over room = omega (arith, push_one queue, room refl)
      go true true room = dropped queue within
      go true false room = within

  -- what is made of each entry
  pub map_put : {X : Type 0} (f : ℕ → X) (queue : List ℕ) → map f (put overflow capacity queue slot) ≡ sends.put overflow capacity
      (map f queue) (f slot)
  map_put {X} f queue =
      go (is_full capacity queue) overflow
      ∙ ap {B = List X} (λ n. cond (not (nat_le capacity n))
      (map f queue ++ f slot ∷ []) (cond overflow (drop 1 (map f queue) ++ f slot ∷ []) (map f queue))) (sym (length-map queue f))
    where
      go : (full over : Bool) → map f (cond (not full) (queue ++ slot ∷ []) (cond over (drop 1 queue ++ slot ∷ []) queue)) ≡ cond (not full)
          (map f queue ++ f slot ∷ []) (cond over (drop 1 (map f queue) ++ f slot ∷ []) (map f queue))
      go false over = map-append f queue (slot ∷ [])
      go true true = map-append f (drop 1 queue) (slot ∷ []) ∙ ap (λ (ys : List X). ys ++ f slot ∷ []) (sym (drop-map f 1 queue))
      go true false = refl

  abbrev step : List (List (List ℕ)) → ℕ → List (List (List ℕ))
  step queues receiver = set_two queues receiver 0 (put overflow capacity (at_two [] queues receiver 0) slot)

  abbrev Fits : List (List (List ℕ)) → ℕ → Type 0
  Fits queues receiver = (receiver < length queues) × (0 < length (get_or queues receiver []))

  there : (queues : List (List (List ℕ))) (a b : ℕ) → a ≢ b → at_two [] (step queues a) b 0 ≡ at_two [] queues b 0
  there queues a b n = other_row queues a 0 _ [] b 0 (λ e. n (sym e))

  keeps : (queues : List (List (List ℕ))) (a b : ℕ) → Fits queues b → Fits (step queues a) b
  keeps queues a b h =
      let row = row_length queues a 0 (put overflow capacity (at_two [] queues a 0) slot) [] b in
      (omega (arith, h.0, length-set_two queues a 0 (put overflow capacity (at_two [] queues a 0) slot)), omega (arith, h.1, row))

  module _ {X : Type 0} (receiver : X → ℕ) (xs : List X) (queues : List (List (List ℕ))) where
    abbrev after : List (List (List ℕ))
    after = put_queues overflow capacity slot queues (map receiver xs)

    -- each of these receivers has the slot, unless its queue is full and may not overflow
    pub put_here : IsApart receiver xs → (i : ℕ) (x : X) → slice_get xs i ≡ Some x → receiver x < length queues
        → 0 < length (get_or queues (receiver x) []) → at_two [] after (receiver x) 0 ≡ put overflow capacity
        (at_two [] queues (receiver x) 0) slot
    put_here apart i x at inside channels =
        reached step (λ r. r) (λ qs r. at_two [] qs r 0) (λ r queue. put overflow capacity queue slot) Fits
        (λ qs r h. at_two-set_two [] qs r 0 h.0 h.1 _) there keeps receiver xs queues apart i x at (inside, channels)

    -- another receiver has what it had
    pub put_there : (r : ℕ) → ((i : ℕ) (x : X) → slice_get xs i ≡ Some x → receiver x ≢ r) → at_two [] after r 0 ≡ at_two [] queues r 0
    put_there r other =
        passed_by step (λ r. r) (λ qs r. at_two [] qs r 0) (λ r queue. put overflow capacity queue slot) Fits
        (λ qs r h. at_two-set_two [] qs r 0 h.0 h.1 _) there keeps receiver xs queues r other

    -- and so have all on other channels
    pub other_channel : (r c : ℕ) → c ≢ 0 → at_two [] after r c ≡ at_two [] queues r c
    other_channel r c n = stays step (λ qs. at_two [] qs r c) same (map receiver xs) queues
      where
        same : (qs : List (List (List ℕ))) (a : ℕ) → at_two [] (step qs a) r c ≡ at_two [] qs r c
        same qs a =
            ⊎_elim
            (λ e. ⊎_elim
            (λ h. ap (λ r. at_two [] (step qs a) r c) e ∙ other_column qs a 0 _ [] h c n ∙ sym (ap (λ r. at_two [] qs r c) e))
            (λ h. ap (λ (zs : List (List (List ℕ))). at_two [] zs r c) (set_past qs a _ h))
            (cases_lt a (length qs)))
            (λ far. other_row qs a 0 _ [] r c far)
            (cases_eq r a)

    -- queues are as many
    pub as_many : length after ≡ length queues
    as_many = stays step (λ qs. length qs) (λ qs a. length-set_two qs a 0 _) (map receiver xs) queues

    pub as_many_channels : (r : ℕ) → length (get_or after r []) ≡ length (get_or queues r [])
    as_many_channels r = stays step (λ qs. length (get_or qs r [])) (λ qs a. row_length qs a 0 _ [] r) (map receiver xs) queues

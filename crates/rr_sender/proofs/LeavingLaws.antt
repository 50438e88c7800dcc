-- What contracts see after entries left a queue, and which slots are emptied then.
use Rattle.std.proofs.Common.{◌≡◌, ℕ, suc, zero, cond, ◌+◌, ◌-◌, ◌<◌, ◌≤◌, Bool, true, false, List, [], ◌∷◌, ◌++◌, length, take, drop, get_or, refl, sym, ap, ◌∙◌, ⊎_elim, arith}
use Rattle.std.specs.Prelude.{not, ◌&&◌, ◌||◌, ◌==◌, ◌≢◌}
use Rattle.std.proofs.lemmas.Bool.{cases_eq, eq-eqb, ne_eqb}
use Rattle.std.proofs.lemmas.List.{get_or-set_other, take_all, drop_all}
use Rattle.rr_sender.specs.Senders.{Messages, times, uses, queue_at, with_queue, with_held, is_full, put, evicted, is_left, emptied_where, emptied_among, first_dropped, queue_cleared, put_into, handed_over}
use Rattle.rr_sender.proofs.EntryLaws.{mark-same, mark-other, times-append, times-push, times-set_two, times-at_two}
use Rattle.rr_sender.proofs.EmptiedLaws.{left-other, left-used, emptied_among-none, emptied_among-alike, emptied_where-alike, emptied_where-none, emptied_where-twice}
use Rattle.rr_sender.proofs.StateLaws.{twice, queue_now, itself, drop-more}

-- no entry leaves where there is room
pub evicted-open : (overflow : Bool) (capacity : ℕ) (entries : List ℕ) → is_full capacity entries ≡ false → evicted overflow capacity entries ≡ []
evicted-open overflow capacity entries full = ap (λ b. cond (overflow && b) (take 1 entries) []) full
    ∙ elim overflow as (λ b. cond (b && false) (take 1 entries) [] ≡ []) [ true ↦ refl | false ↦ refl ]

take_one-more : (n : ℕ) (xs : List ℕ) (i : ℕ) → times i (take (n + 1) xs) ≡ times i (take n xs) + times i (take 1 (drop n xs))
take_one-more n xs i = ap (times i) (split n xs) ∙ times-append i (take n xs) (take 1 (drop n xs)) where
  split : (n : ℕ) (xs : List ℕ) → take (n + 1) xs ≡ take n xs ++ take 1 (drop n xs)
  split zero xs = refl
  split (suc n) [] = let more : suc n + 1 ≡ suc (n + 1) = omega arith in ap (λ k. take {A = ℕ} k []) more
  split (suc n) (x ∷ xs) = let more : suc n + 1 ≡ suc (n + 1) = omega arith in ap (λ k. take k (x ∷ xs)) more
      ∙ ap (λ rest. x ∷ rest) (split n xs)

times-drop : (n : ℕ) (xs : List ℕ) (i : ℕ) → times i (drop n xs) ≡ times i (take 1 (drop n xs)) + times i (drop (n + 1) xs)
times-drop zero [] i = refl
times-drop zero (x ∷ xs) i = omega arith
times-drop (suc n) [] i = let more : suc n + 1 ≡ suc (n + 1) = omega arith in
    ap (λ k. 0 + times i (drop {A = ℕ} k [])) (sym more)
times-drop (suc n) (x ∷ xs) i = let more : suc n + 1 ≡ suc (n + 1) = omega arith in times-drop n xs i
    ∙ ap (λ k. times i (take 1 (drop n xs)) + times i (drop k (x ∷ xs))) (sym more)

-- a slot that left now or before, and has no use then, is one that left
both_left : (before now uses : ℕ) → (not (before == 0) && (uses + now == 0)) || (not (now == 0) && (uses == 0))
    ≡ (not (before + now == 0) && (uses == 0))
both_left before zero uses =
    ap (λ n. (not (before == 0) && (n == 0)) || (not (0 == 0) && (uses == 0))) (omega arith)
    ∙ ap (λ b. (not (before == 0) && (uses == 0)) || (not b && (uses == 0))) (eq-eqb 0 0 refl)
    ∙ elim (not (before == 0) && (uses == 0)) as (λ b. b || false ≡ b) [ true ↦ refl | false ↦ refl ]
    ∙ ap (λ n. not (n == 0) && (uses == 0)) (omega arith)
both_left before (suc now) uses =
    ap (λ b. (not (before == 0) && b) || (not (suc now == 0) && (uses == 0))) (ne_eqb (uses + suc now) 0 (λ e. omega (arith, e)))
    ∙ ap (λ b. (not (before == 0) && false) || (not b && (uses == 0))) (ne_eqb (suc now) 0 (λ e. omega (arith, e)))
    ∙ elim (not (before == 0)) as (λ b. (b && false) || (true && (uses == 0)) ≡ (uses == 0)) [ true ↦ refl | false ↦ refl ]
    ∙ ap (λ b. not b && (uses == 0)) (sym (ne_eqb (before + suc now) 0 (λ e. omega (arith, e))))

module _ {T N H : Type 0} (m : Messages T N H) (receiver channel : ℕ) (at : receiver < length m.queues)
    (inside : channel < length (get_or m.queues receiver [])) where
  abbrev entries : List ℕ
  entries = queue_at m receiver channel

  -- with other entries in the queue
  abbrev with_entries : List ℕ → Messages T N H
  with_entries queue = with_queue m receiver channel queue

  uses-entries : (i : ℕ) (queue : List ℕ) → uses (with_entries queue) i + times i entries ≡ uses m i + times i queue
  uses-entries i queue = omega (arith, times-set_two m.queues receiver channel at inside i queue)

  -- none was dropped so far
  pub none_dropped : m ≡ emptied_among (take 0 entries) (with_entries (drop 0 entries))
  none_dropped = itself m receiver channel at inside ∙ sym (emptied_among-none (with_entries (drop 0 entries)))

  -- one more is dropped
  pub one_dropped : (n : ℕ) → first_dropped (emptied_among (take n entries) (with_entries (drop n entries))) receiver channel
      ≡ emptied_among (take (n + 1) entries) (with_entries (drop (n + 1) entries))
  one_dropped n =
      ap (λ (k : Messages T N H). record k {
        contents = emptied_where (is_left (take 1 (queue_at (with_entries (drop n entries)) receiver channel)) k)
            (emptied_where (is_left (take n entries) (with_entries (drop n entries))) m.contents);
      }) (drop-more m receiver channel at inside n)
      ∙ ap (λ queue. record (with_entries (drop (n + 1) entries)) {
        contents = emptied_where (is_left (take 1 queue) (with_entries (drop (n + 1) entries)))
            (emptied_where (is_left (take n entries) (with_entries (drop n entries))) m.contents);
      }) (queue_now m receiver channel at inside (drop n entries))
      ∙ ap (λ contents. record (with_entries (drop (n + 1) entries)) { contents = contents })
      (emptied_where-twice (is_left (take n entries) (with_entries (drop n entries)))
      (is_left (take 1 (drop n entries)) (with_entries (drop (n + 1) entries))) m.contents
      ∙ emptied_where-alike (λ i. is_left (take n entries) (with_entries (drop n entries)) i
      || is_left (take 1 (drop n entries)) (with_entries (drop (n + 1) entries)) i)
      (is_left (take (n + 1) entries) (with_entries (drop (n + 1) entries))) m.contents
      (λ i. ap (λ u. (not (times i (take n entries) == 0) && (u == 0))
      || is_left (take 1 (drop n entries)) (with_entries (drop (n + 1) entries)) i)
      (uses_then i)
      ∙ both_left (times i (take n entries)) (times i (take 1 (drop n entries))) (uses (with_entries (drop (n + 1) entries)) i)
      ∙ ap (λ t. not (t == 0) && (uses (with_entries (drop (n + 1) entries)) i == 0)) (sym (take_one-more n entries i))))
    where
      uses_then : (i : ℕ) → uses (with_entries (drop n entries)) i
          ≡ uses (with_entries (drop (n + 1) entries)) i + times i (take 1 (drop n entries))
      uses_then i = omega (arith, uses-entries i (drop n entries), uses-entries i (drop (n + 1) entries), times-drop n entries i)

  -- all are dropped
  pub all_dropped : (n : ℕ) → length entries ≤ n → emptied_among (take n entries) (with_entries (drop n entries))
      ≡ queue_cleared m receiver channel
  all_dropped n all = ap (λ slots. emptied_among slots (with_entries (drop n entries))) (take_all n entries all)
      ∙ ap (λ queue. emptied_among entries (with_entries queue)) (drop_all n entries all)

  -- a slot that a handle holds comes
  module _ (slot : ℕ) (held : 0 < get_or m.held slot 0) where
    -- it is used all the while
    used_now : (queue : List ℕ) → 0 < uses (with_entries queue) slot
    used_now queue = omega (arith, held)

    uses-came : (i : ℕ) → i ≢ slot → uses (with_entries (drop 1 entries)) i ≡ uses (with_entries (drop 1 entries ++ slot ∷ [])) i
    uses-came i other = omega (
      arith,
      uses-entries i (drop 1 entries),
      uses-entries i (drop 1 entries ++ slot ∷ []),
      times-push i (drop 1 entries) slot,
      mark-other slot i (λ e. other (sym e)),
    )

    -- a queue with room takes it
    pub put-open : (overflow : Bool) → is_full m.capacity entries ≡ false
        → with_entries (entries ++ slot ∷ []) ≡ put_into overflow m receiver channel slot
    put-open overflow full =
        sym (ap (λ slots. emptied_among slots (with_entries (put overflow m.capacity entries slot)))
        (evicted-open overflow m.capacity entries full)
        ∙ emptied_among-none (with_entries (put overflow m.capacity entries slot))
        ∙ ap (λ b. with_entries (cond (not b) (entries ++ slot ∷ []) (cond overflow (drop 1 entries ++ slot ∷ []) entries))) full)

    -- a full one doesn't
    pub put-refused : is_full m.capacity entries ≡ true → m ≡ put_into false m receiver channel slot
    put-refused full =
        itself m receiver channel at inside
        ∙ sym (emptied_among-none (with_entries (put false m.capacity entries slot))
        ∙ ap (λ b. with_entries (cond (not b) (entries ++ slot ∷ []) entries)) full)

    -- or gives up its oldest
    pub put-full : is_full m.capacity entries ≡ true
        → with_queue (first_dropped m receiver channel) receiver channel (queue_at (first_dropped m receiver channel) receiver channel ++ slot ∷ [])
        ≡ put_into true m receiver channel slot
    put-full full =
        ap (λ (k : Messages T N H). record k { contents = (first_dropped m receiver channel).contents })
        (twice m receiver channel at inside (drop 1 entries) (queue_at (with_entries (drop 1 entries)) receiver channel ++ slot ∷ [])
        ∙ ap (λ queue. with_entries (queue ++ slot ∷ [])) (queue_now m receiver channel at inside (drop 1 entries)))
        ∙ ap (λ contents. record (with_entries (drop 1 entries ++ slot ∷ [])) { contents = contents })
        (emptied_among-alike (with_entries (drop 1 entries)) (take 1 entries) (take 1 entries) (with_entries (drop 1 entries ++ slot ∷ []))
        (λ i. ⊎_elim
        (λ e. ap (is_left (take 1 entries) (with_entries (drop 1 entries))) e
        ∙ left-used (with_entries (drop 1 entries)) (take 1 entries) slot (used_now (drop 1 entries))
        ∙ sym (ap (is_left (take 1 entries) (with_entries (drop 1 entries ++ slot ∷ []))) e
        ∙ left-used (with_entries (drop 1 entries ++ slot ∷ [])) (take 1 entries) slot (used_now (drop 1 entries ++ slot ∷ []))))
        (λ n. ap (λ u. not (times i (take 1 entries) == 0) && (u == 0)) (uses-came i n))
        (cases_eq i slot)) refl)
        ∙ ap (λ b. emptied_among (cond b (take 1 entries) [])
        (with_entries (cond (not b) (entries ++ slot ∷ []) (drop 1 entries ++ slot ∷ [])))) (sym full)

    -- and the handle's hold goes
    abbrev without : List ℕ → Messages T N H
    without queue = with_held (with_entries queue) slot (get_or m.held slot 0 - 1)

    came_used : (queue : List ℕ) → 0 < uses (without (queue ++ slot ∷ [])) slot
    came_used queue = omega (
      arith,
      times-set_two m.queues receiver channel at inside slot (queue ++ slot ∷ []),
      times-at_two m.queues receiver channel at inside slot,
      times-push slot queue slot,
      mark-same slot,
    )

    left_alone : (queue : List ℕ) (i : ℕ) → is_left (slot ∷ []) (without (queue ++ slot ∷ [])) i ≡ false
    left_alone queue i = ⊎_elim
        (λ e. ap (is_left (slot ∷ []) (without (queue ++ slot ∷ []))) e
        ∙ left-used (without (queue ++ slot ∷ [])) (slot ∷ []) slot (came_used queue))
        (λ n. left-other (without (queue ++ slot ∷ [])) (slot ∷ []) i (omega (arith, mark-other slot i (λ e. n (sym e)))))
        (cases_eq i slot)

    pub hand_over-open : (overflow : Bool) → is_full m.capacity entries ≡ false
        → without (entries ++ slot ∷ []) ≡ handed_over overflow m receiver channel slot
    hand_over-open overflow full =
        sym (ap (λ slots. emptied_among (slot ∷ slots) (without (put overflow m.capacity entries slot)))
        (evicted-open overflow m.capacity entries full)
        ∙ ap (λ b. emptied_among (slot ∷ []) (without (cond (not b) (entries ++ slot ∷ []) (cond overflow (drop 1 entries ++ slot ∷ []) entries)))) full
        ∙ ap (λ contents. record (without (entries ++ slot ∷ [])) { contents = contents })
        (emptied_where-none (is_left (slot ∷ []) (without (entries ++ slot ∷ []))) m.contents (left_alone entries)))

    pub hand_over-refused : is_full m.capacity entries ≡ true
        → emptied_among (slot ∷ []) (with_held m slot (get_or m.held slot 0 - 1)) ≡ handed_over false m receiver channel slot
    hand_over-refused full =
        ap (λ k. emptied_among (slot ∷ []) (with_held k slot (get_or m.held slot 0 - 1))) (itself m receiver channel at inside)
        ∙ sym (ap (λ b. emptied_among (slot ∷ []) (without (cond (not b) (entries ++ slot ∷ []) entries))) full)

    pub hand_over-full : is_full m.capacity entries ≡ true
        → with_held (with_queue (first_dropped m receiver channel) receiver channel
        (queue_at (first_dropped m receiver channel) receiver channel ++ slot ∷ [])) slot (get_or m.held slot 0 - 1)
        ≡ handed_over true m receiver channel slot
    hand_over-full full =
        ap (λ (k : Messages T N H). record (with_held k slot (get_or m.held slot 0 - 1)) { contents = (first_dropped m receiver channel).contents })
        (twice m receiver channel at inside (drop 1 entries) (queue_at (with_entries (drop 1 entries)) receiver channel ++ slot ∷ [])
        ∙ ap (λ queue. with_entries (queue ++ slot ∷ [])) (queue_now m receiver channel at inside (drop 1 entries)))
        ∙ ap (λ contents. record (without (drop 1 entries ++ slot ∷ [])) { contents = contents })
        (emptied_among-alike (with_entries (drop 1 entries)) (take 1 entries) (slot ∷ take 1 entries) (without (drop 1 entries ++ slot ∷ []))
        (λ i. ⊎_elim
        (λ e. ap (is_left (take 1 entries) (with_entries (drop 1 entries))) e
        ∙ left-used (with_entries (drop 1 entries)) (take 1 entries) slot (used_now (drop 1 entries))
        ∙ sym (ap (is_left (slot ∷ take 1 entries) (without (drop 1 entries ++ slot ∷ []))) e
        ∙ left-used (without (drop 1 entries ++ slot ∷ [])) (slot ∷ take 1 entries) slot (came_used (drop 1 entries))))
        (λ n. ap (λ u. not (times i (take 1 entries) == 0) && (u == 0)) (uses-handed i n)
        ∙ ap (λ t. not (t == 0) && (uses (without (drop 1 entries ++ slot ∷ [])) i == 0)) (times-other i n))
        (cases_eq i slot)) refl)
        ∙ ap (λ b. emptied_among (slot ∷ cond b (take 1 entries) [])
        (without (cond (not b) (entries ++ slot ∷ []) (drop 1 entries ++ slot ∷ [])))) (sym full)
      where
        times-other : (i : ℕ) → i ≢ slot → times i (take 1 entries) ≡ times i (slot ∷ take 1 entries)
        times-other i other = omega (arith, mark-other slot i (λ e. other (sym e)))

        uses-handed : (i : ℕ) → i ≢ slot → uses (with_entries (drop 1 entries)) i ≡ uses (without (drop 1 entries ++ slot ∷ [])) i
        uses-handed i other = omega (arith, uses-came i other, get_or-set_other m.held slot i (get_or m.held slot 0 - 1) 0 other)

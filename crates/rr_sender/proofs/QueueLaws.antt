-- What contracts see of a sender's parts after entries came or went.
use Rattle.std.proofs.Common.{◌≡◌, ℕ, ◌+◌, ◌-◌, ◌<◌, List, [], ◌∷◌, ◌++◌, length, drop, take, get_or, refl, sym, ap, ◌∙◌, ⊎_elim, arith}
use Rattle.std.specs.Prelude.{slice_set, slice_get, Option, Some, None, IfSome}
use Rattle.std.proofs.lemmas.Bool.{cases_eq}
use Rattle.std.proofs.lemmas.List.{length-set, get_or-set_same, get_or-set_other}
use Rattle.rr_slots.specs.Pools.{Slots, held_once_more, given_back}
use Rattle.rr_sender.specs.declared.sender.Head.{Head}
use Rattle.rr_sender.specs.Senders.{Messages, times, all_entries, at_two, set_two, uses, with_held, with_queue, emptied_among, first_dropped, taken}
use Rattle.rr_sender.specs.Links.{Sent, with_entries, with_count}
use Rattle.rr_sender.specs.Parts.{held_of, messages, IsSound}
use Rattle.rr_sender.proofs.EntryLaws.{mark, mark-same, mark-other, times-push, times-first, times-set_two, times-at_two}
use Rattle.rr_sender.proofs.EmptiedLaws.{emptied_among-none}
use Rattle.rr_sender.proofs.HeldLaws.{length-held_of, held_stays, held_becomes}
use Rattle.rr_sender.proofs.SenderLaws.{held_is, within_holders, contents-given_back, sound-given_back}

-- a list of numbers after one of them became one more or one less
at_more : (xs : List ℕ) (i k : ℕ) → i < length xs → get_or (slice_set xs i (get_or xs i 0 + 1)) k 0 ≡ get_or xs k 0 + mark i k
at_more xs i k inside = ⊎_elim
    (λ e. ap (λ j. get_or (slice_set xs i (get_or xs i 0 + 1)) j 0) e ∙ get_or-set_same xs i (get_or xs i 0 + 1) 0 inside
    ∙ (let here : get_or xs i 0 + 1 ≡ get_or xs i 0 + mark i i = omega (arith, mark-same i) in here)
    ∙ sym (ap (λ j. get_or xs j 0 + mark i j) e))
    (λ n. omega (arith, get_or-set_other xs i k (get_or xs i 0 + 1) 0 n, mark-other i k (λ e. n (sym e))))
    (cases_eq k i)

at_less : (xs : List ℕ) (i k : ℕ) → i < length xs → 0 < get_or xs i 0
    → get_or (slice_set xs i (get_or xs i 0 - 1)) k 0 + mark i k ≡ get_or xs k 0
at_less xs i k inside some = ⊎_elim
    (λ e. ap (λ j. get_or (slice_set xs i (get_or xs i 0 - 1)) j 0 + mark i j) e
    ∙ (let here : get_or (slice_set xs i (get_or xs i 0 - 1)) i 0 + mark i i ≡ get_or xs i 0 = omega
    (arith, get_or-set_same xs i (get_or xs i 0 - 1) 0 inside, mark-same i) in here) ∙ sym (ap (λ j. get_or xs j 0) e))
    (λ n. omega (arith, get_or-set_other xs i k (get_or xs i 0 - 1) 0 n, mark-other i k (λ e. n (sym e))))
    (cases_eq k i)

first-none : (xs : List ℕ) → slice_get xs 0 ≡ None → xs ≡ []
first-none [] h = refl
first-none (x ∷ xs) h = absurd (let g : Some x ≡ None = h in cc)

take-first : (x : ℕ) (xs : List ℕ) → slice_get xs 0 ≡ Some x → take 1 xs ≡ x ∷ []
take-first x [] h = absurd (let g : None ≡ Some x = h in cc)
take-first x (y ∷ xs) h = let same : y ≡ x = cc in ap (λ z. z ∷ []) same

in_some : {P : ℕ → Type 0} (o : Option ℕ) → ((x : ℕ) → o ≡ Some x → P x) → IfSome o P
in_some None h = tt
in_some (Some x) h = h x refl

module _ {T N H : Type 0} (pool : Slots T) (heads : List (Head N H)) (s : Sent) (sound : IsSound pool heads s) (receiver channel : ℕ)
    (at : receiver < length s.queues) (inside : channel < length (get_or s.queues receiver [])) where
  -- holders and entries changed alike
  module _ (after : List ℕ) (looks : ℕ) (queue : List ℕ) (len : length after ≡ length pool.holders)
      (balanced : (k : ℕ) → get_or after k 0 + times k (at_two [] s.queues receiver channel) ≡ get_or pool.holders k 0 + times k queue)
    where
      state-moved : messages (record pool { holders = after; looks = looks }) heads (with_entries s receiver channel queue) ≡ with_queue
          (messages pool heads s) receiver channel queue
      state-moved = ap (λ held. record (with_queue (messages pool heads s) receiver channel queue) { held = held })
          (held_stays pool.holders after s.queues (set_two s.queues receiver channel queue) len
          (λ k. omega (arith, balanced k, sound.covered k, times-set_two s.queues receiver channel at inside k queue)))

      sound-moved : IsSound (record pool { holders = after; looks = looks }) heads (with_entries s receiver channel queue)
      sound-moved = record {
        covered = λ k. omega (arith, balanced k, sound.covered k, times-set_two s.queues receiver channel at inside k queue);
        one_body_each = omega (arith, sound.one_body_each, len);
        one_head_each = omega (arith, sound.one_head_each, len);
      }

  -- a slot came
  module _ (slot : ℕ) (some : 0 < get_or pool.holders slot 0) where
    came : (k : ℕ) → get_or (held_once_more pool slot).holders k 0 + times k
        (at_two [] s.queues receiver channel) ≡ get_or pool.holders k 0 + times k (at_two [] s.queues receiver channel ++ slot ∷ [])
    came k = omega (
      arith,
      at_more pool.holders slot k (within_holders pool heads s sound slot some),
      times-push k (at_two [] s.queues receiver channel) slot,
    )

    pub state-enter : messages (held_once_more pool slot) heads
        (with_entries s receiver channel (at_two [] s.queues receiver channel ++ slot ∷ [])) ≡ with_queue
        (messages pool heads s) receiver channel (at_two [] s.queues receiver channel ++ slot ∷ [])
    state-enter = state-moved (held_once_more pool slot).holders (pool.looks + 2)
        (at_two [] s.queues receiver channel ++ slot ∷ []) (length-set pool.holders slot (get_or pool.holders slot 0 + 1)) came

    pub sound-enter : IsSound (held_once_more pool slot) heads
        (with_entries s receiver channel (at_two [] s.queues receiver channel ++ slot ∷ []))
    sound-enter = sound-moved (held_once_more pool slot).holders (pool.looks + 2)
        (at_two [] s.queues receiver channel ++ slot ∷ []) (length-set pool.holders slot (get_or pool.holders slot 0 + 1)) came

  -- the oldest entry went
  module _ (slot : ℕ) (first : slice_get (at_two [] s.queues receiver channel) 0 ≡ Some slot) where
    pub entry_holds : 0 < get_or pool.holders slot 0
    entry_holds = omega (
      arith,
      sound.covered slot,
      times-at_two s.queues receiver channel at inside slot,
      times-first slot slot (at_two [] s.queues receiver channel) first,
      mark-same slot,
    )

    pub entry_within : slot < length (held_of pool.holders s.queues)
    entry_within = omega (arith, within_holders pool heads s sound slot entry_holds, length-held_of pool.holders s.queues)

    went : (k : ℕ) → get_or (given_back pool slot).holders k 0 + times k
        (at_two [] s.queues receiver channel) ≡ get_or pool.holders k 0 + times k (drop 1 (at_two [] s.queues receiver channel))
    went k = omega (
      arith,
      at_less pool.holders slot k (within_holders pool heads s sound slot entry_holds) entry_holds,
      times-first k slot (at_two [] s.queues receiver channel) first,
    )

    abbrev shorter : Messages T N H
    shorter = with_queue (messages pool heads s) receiver channel (drop 1 (at_two [] s.queues receiver channel))

    used_less : uses shorter slot ≡ get_or pool.holders slot 0 - 1
    used_less = omega (
      arith,
      held_is pool heads s sound slot,
      times-set_two s.queues receiver channel at inside slot (drop 1 (at_two [] s.queues receiver channel)),
      times-first slot slot (at_two [] s.queues receiver channel) first,
      mark-same slot,
    )

    pub state-drop_first : messages (given_back pool slot) heads
        (with_entries s receiver channel (drop 1 (at_two [] s.queues receiver channel)))
        ≡ first_dropped (messages pool heads s) receiver channel
    state-drop_first =
        ap (λ (m : Messages T N H). record m { contents = (given_back pool slot).contents })
        (state-moved (given_back pool slot).holders (pool.looks + 2) (drop 1 (at_two [] s.queues receiver channel))
        (length-set pool.holders slot (get_or pool.holders slot 0 - 1)) went)
        ∙ ap (λ contents. record shorter { contents = contents }) (contents-given_back pool slot shorter refl used_less)
        ∙ ap (λ slots. emptied_among slots shorter) (sym (take-first slot (at_two [] s.queues receiver channel) first))

    pub sound-drop_first : IsSound (given_back pool slot) heads
        (with_entries s receiver channel (drop 1 (at_two [] s.queues receiver channel)))
    sound-drop_first =
        sound-given_back pool heads (with_entries s receiver channel (drop 1 (at_two [] s.queues receiver channel))) slot
        (sound-moved (given_back pool slot).holders (pool.looks + 2) (drop 1 (at_two [] s.queues receiver channel))
        (length-set pool.holders slot (get_or pool.holders slot 0 - 1)) went)

    -- an entry became a handle
    module _ (n : ℕ) where
      rest : (k : ℕ) → times k (all_entries (set_two s.queues receiver channel (drop 1 (at_two [] s.queues receiver channel))))
          + mark slot k ≡ times k (all_entries s.queues)
      rest k = omega (
        arith,
        times-set_two s.queues receiver channel at inside k (drop 1 (at_two [] s.queues receiver channel)),
        times-first k slot (at_two [] s.queues receiver channel) first,
      )

      pub sound-take : IsSound pool heads (with_count (with_entries s receiver channel (drop 1 (at_two [] s.queues receiver channel)))
          receiver channel n)
      sound-take = record {
        covered = λ k. omega (arith, rest k, sound.covered k);
        one_body_each = sound.one_body_each;
        one_head_each = sound.one_head_each;
      }

    pub state-take : messages pool heads (with_count (with_entries s receiver channel (drop 1 (at_two [] s.queues receiver channel)))
        receiver channel (at_two 0 s.borrowed receiver channel + 1))
        ≡ taken (messages pool heads s) receiver channel slot (drop 1 (at_two [] s.queues receiver channel))
    state-take = ap (λ held. record (taken (messages pool heads s) receiver channel slot (drop 1 (at_two [] s.queues receiver channel)))
        { held = held })
        (held_becomes pool.holders pool.holders s.queues (set_two s.queues receiver channel (drop 1 (at_two [] s.queues receiver channel)))
        refl slot (get_or (held_of pool.holders s.queues) slot 0 + 1)
        (within_holders pool heads s sound slot entry_holds)
        (omega (arith, rest 0 slot, mark-same slot, held_is pool heads s sound slot))
        (λ k other. omega (arith, rest 0 k, mark-other slot k (λ e. other (sym e)))))

  -- a handle became an entry
  module _ (slot : ℕ) (held : 0 < get_or (held_of pool.holders s.queues) slot 0) where
    abbrev longer : List ℕ
    longer = at_two [] s.queues receiver channel ++ slot ∷ []

    more : (k : ℕ) → times k (all_entries (set_two s.queues receiver channel longer)) ≡ times k (all_entries s.queues) + mark slot k
    more k = omega (
      arith,
      times-set_two s.queues receiver channel at inside k longer,
      times-push k (at_two [] s.queues receiver channel) slot,
      times-at_two s.queues receiver channel at inside k,
    )

    pub sound-append : IsSound pool heads (with_entries s receiver channel longer)
    sound-append = record {
      covered = λ k. ⊎_elim
          (λ e. omega (
            arith,
            more slot,
            mark-same slot,
            held,
            held_is pool heads s sound slot,
            ap (λ j. times j (all_entries (set_two s.queues receiver channel longer))) e,
            ap (λ j. get_or pool.holders j 0) e,
          ))
          (λ n. omega (arith, more k, mark-other slot k (λ e. n (sym e)), sound.covered k))
          (cases_eq k slot);
      one_body_each = sound.one_body_each;
      one_head_each = sound.one_head_each;
    }

    pub state-append : messages pool heads (with_entries s receiver channel longer)
        ≡ with_held (with_queue (messages pool heads s) receiver channel longer) slot (get_or (held_of pool.holders s.queues) slot 0 - 1)
    state-append = ap (λ hs. record (with_queue (messages pool heads s) receiver channel longer) { held = hs })
        (held_becomes pool.holders pool.holders s.queues (set_two s.queues receiver channel longer) refl slot
        (get_or (held_of pool.holders s.queues) slot 0 - 1)
        (within_holders pool heads s sound slot (omega (arith, held, held_is pool heads s sound slot)))
        (omega (arith, more slot, mark-same slot, held_is pool heads s sound slot))
        (λ k other. omega (arith, more k, mark-other slot k (λ e. other (sym e)))))

  -- there was none
  module _ (none : slice_get (at_two [] s.queues receiver channel) 0 ≡ None) where
    nothing_went : (k : ℕ) → get_or pool.holders k 0 + times k (at_two [] s.queues receiver channel) ≡ get_or pool.holders k 0 + times k
        (drop 1 (at_two [] s.queues receiver channel))
    nothing_went k = let same : drop 1 (at_two [] s.queues receiver channel) ≡ at_two [] s.queues receiver channel = ap (drop 1)
        (first-none (at_two [] s.queues receiver channel) none) ∙ sym (first-none (at_two [] s.queues receiver channel) none) in
        ap (λ queue. get_or pool.holders k 0 + times k queue) (sym same)

    pub state-drop_none : messages pool heads (with_entries s receiver channel (drop 1 (at_two [] s.queues receiver channel)))
        ≡ first_dropped (messages pool heads s) receiver channel
    state-drop_none =
        state-moved pool.holders pool.looks (drop 1 (at_two [] s.queues receiver channel)) refl nothing_went
        ∙ sym (ap (λ slots. emptied_among (take 1 slots)
        (with_queue (messages pool heads s) receiver channel (drop 1 (at_two [] s.queues receiver channel))))
        (first-none (at_two [] s.queues receiver channel) none)
        ∙ emptied_among-none (with_queue (messages pool heads s) receiver channel (drop 1 (at_two [] s.queues receiver channel))))

    pub sound-drop_none : IsSound pool heads (with_entries s receiver channel (drop 1 (at_two [] s.queues receiver channel)))
    sound-drop_none = sound-moved pool.holders pool.looks (drop 1 (at_two [] s.queues receiver channel)) refl nothing_went

  pub first_within : IfSome (slice_get (at_two [] s.queues receiver channel) 0) (λ slot. slot < length (held_of pool.holders s.queues))
  first_within = in_some (slice_get (at_two [] s.queues receiver channel) 0) (λ slot first. entry_within slot first)

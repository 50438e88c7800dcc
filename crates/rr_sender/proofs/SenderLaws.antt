-- What contracts see of a sender's parts after a call on its pool.
use Rattle.std.proofs.Common.{◌≡◌, ℕ, suc, zero, ◌+◌, ◌-◌, ◌<◌, ◌≤◌, true, false, List, [], ◌∷◌, cond, length, take, get_or, refl, sym, ap, ◌∙◌, ⊎_elim, arith}
use Rattle.std.specs.Prelude.{slice_set, slice_get, count_by, ◌==◌, Some}
use Rattle.std.proofs.Math.Seq.{take-length}
use Rattle.std.proofs.lemmas.Bool.{cases_eq, cases_lt}
use Rattle.std.proofs.lemmas.List.{map-set, length-set, length-replicate, get_or_past, get_or-set_same, get_or-set_other, take_more}
use Rattle.std.proofs.lemmas.List.Sums.{sum_by_push}
use Rattle.std.proofs.lemmas.Option.{get_or_from_slice_get, slice_get_within, slice_get-get_or}
use Rattle.rr_slots.specs.Pools.{Slots, emptied, nothing_written, acquired, held_once_more, given_back, free_count, free_slots}
use Rattle.rr_sender.specs.declared.sender.Head.{Head}
use Rattle.rr_sender.specs.Senders.{Messages, times, all_entries, uses, used_below, used_count, with_held, emptied_among, given_back as without_handle, loaned}
use Rattle.rr_sender.specs.Links.{Sent, nothing_sent}
use Rattle.rr_sender.specs.Parts.{held_of, messages, details_of, IsSound}
use Rattle.rr_sender.proofs.EntryLaws.{times-empty}
use Rattle.rr_sender.proofs.EmptiedLaws.{emptied_among-one}
use Rattle.rr_sender.proofs.HeldLaws.{length-held_of, held_at, held_becomes}

length-given_back : {T : Type 0} (pool : Slots T) (slot : ℕ) → length (given_back pool slot).contents ≡ length pool.contents
length-given_back pool slot =
    elim (get_or pool.holders slot 0 - 1 == 0) as
    (λ b. length (cond b (slice_set pool.contents slot (emptied (get_or pool.contents slot (nothing_written 0)))) pool.contents)
    ≡ length pool.contents)
    [ true ↦ length-set pool.contents slot (emptied (get_or pool.contents slot (nothing_written 0))) | false ↦ refl ]

module _ {T N H : Type 0} where
  -- of the first slots, each is used or free
  used_or_free : (m : Messages T N H) (holders : List ℕ) → ((k : ℕ) → uses m k ≡ get_or holders k 0) → (n : ℕ) → n ≤ length holders
      → used_below m n + count_by (λ h. h == 0) (take n holders) ≡ n
  used_or_free m holders same zero h = refl
  used_or_free m holders same (suc n) h =
      let more : suc n ≡ n + 1 = omega arith in
      let split : cond (uses m n == 0) 0 1 + cond (get_or holders n 0 == 0) 1 0 ≡ 1 =
      ap (λ k. cond (k == 0) 0 1 + cond (get_or holders n 0 == 0) 1 0) (same n)
      ∙ elim (get_or holders n 0 == 0) as (λ b. cond b 0 1 + cond b 1 0 ≡ 1) [ true ↦ refl | false ↦ refl ] in
      omega (
        arith,
        split,
        used_or_free m holders same n (omega arith),
        ap (λ k. count_by (λ x. x == 0) (take k holders)) more,
        ap (count_by (λ x. x == 0)) (take_more holders n 0 (omega arith)),
        sum_by_push (λ x. cond (x == 0) 1 0) (take n holders) (get_or holders n 0),
      )

  -- what stands in slots after one was given back: its last use is gone where nothing uses it then
  pub contents-given_back : (pool : Slots T) (slot : ℕ) (m : Messages T N H) → m.contents ≡ pool.contents
      → uses m slot ≡ get_or pool.holders slot 0 - 1 → (given_back pool slot).contents ≡ (emptied_among (slot ∷ []) m).contents
  contents-given_back pool slot m same left = sym (emptied_among-one m slot
      ∙ ap (λ n. cond (n == 0) (slice_set m.contents slot (emptied (get_or m.contents slot (nothing_written 0)))) m.contents) left
      ∙ ap (λ ws. cond (get_or pool.holders slot 0 - 1 == 0) (slice_set ws slot (emptied (get_or ws slot (nothing_written 0)))) ws) same)

  -- whether a body is emptied or not, there is one in each slot
  pub sound-given_back : (pool : Slots T) (heads : List (Head N H)) (s : Sent) (slot : ℕ)
      → IsSound (record (given_back pool slot) { contents = pool.contents }) heads s → IsSound (given_back pool slot) heads s
  sound-given_back pool heads s slot sound = record {
    covered = sound.covered;
    one_body_each = length-given_back pool slot ∙ sound.one_body_each;
    one_head_each = sound.one_head_each;
  }

  module _ (pool : Slots T) (heads : List (Head N H)) (s : Sent) (sound : IsSound pool heads s) where
    pub held_is : (k : ℕ) → get_or (held_of pool.holders s.queues) k 0 + times k (all_entries s.queues) ≡ get_or pool.holders k 0
    held_is k = omega (arith, held_at pool.holders s.queues k, sound.covered k)

    pub used-and-free : used_count (messages pool heads s) + free_count pool ≡ length pool.holders
    used-and-free =
        ap (λ n. used_below (messages pool heads s) n + free_count pool) (length-held_of pool.holders s.queues)
        ∙ ap (λ holders. used_below (messages pool heads s) (length pool.holders) + count_by (λ h. h == 0) holders)
        (sym (take-length pool.holders))
        ∙ used_or_free (messages pool heads s) pool.holders held_is (length pool.holders) (omega arith)

    pub within_holders : (slot : ℕ) → 0 < get_or pool.holders slot 0 → slot < length pool.holders
    within_holders slot some = ⊎_elim (λ h. h) (λ h. absurd (omega (arith, some, get_or_past pool.holders slot 0 h)))
        (cases_lt slot (length pool.holders))

    -- the holders of one slot changed
    held-set : (slot x n : ℕ) → slot < length pool.holders → x - times slot (all_entries s.queues) ≡ n
        → held_of (slice_set pool.holders slot x) s.queues ≡ slice_set (held_of pool.holders s.queues) slot n
    held-set slot x n inside now =
        held_becomes pool.holders (slice_set pool.holders slot x) s.queues s.queues (length-set pool.holders slot x) slot n inside
        (omega (arith, now, get_or-set_same pool.holders slot x 0 inside))
        (λ k other. ap (λ h. h - times k (all_entries s.queues)) (get_or-set_other pool.holders slot k x 0 other))

    held-changed : (slot x looks n : ℕ) → 0 < get_or pool.holders slot 0 → x - times slot (all_entries s.queues) ≡ n
        → messages (record pool { holders = slice_set pool.holders slot x; looks = looks }) heads s ≡ with_held
        (messages pool heads s) slot n
    held-changed slot x looks n some now = ap (λ held. record (messages pool heads s) { held = held })
        (held-set slot x n (within_holders slot some) now)

    pub state-hold : (slot : ℕ) → 0 < get_or pool.holders slot 0
        → messages (held_once_more pool slot) heads s ≡ with_held (messages pool heads s) slot
        (get_or (held_of pool.holders s.queues) slot 0 + 1)
    state-hold slot some = held-changed slot (get_or pool.holders slot 0 + 1) (pool.looks + 2)
        (get_or (held_of pool.holders s.queues) slot 0 + 1) some (omega (arith, held_is slot))

    module _ (slot : ℕ) (some : 0 < get_or (held_of pool.holders s.queues) slot 0) where
      pub has_holder : 0 < get_or pool.holders slot 0
      has_holder = omega (arith, held_is slot)

      abbrev held_less : Messages T N H
      held_less = with_held (messages pool heads s) slot (get_or (held_of pool.holders s.queues) slot 0 - 1)

      used_less : uses held_less slot ≡ get_or pool.holders slot 0 - 1
      used_less = omega (
        arith,
        held_is slot,
        get_or-set_same (held_of pool.holders s.queues) slot (get_or (held_of pool.holders s.queues) slot 0 - 1) 0
            (omega (arith, within_holders slot has_holder, length-held_of pool.holders s.queues)),
      )

      pub state-give_back : messages (given_back pool slot) heads s ≡ without_handle (messages pool heads s) slot
      state-give_back =
          ap (λ (m : Messages T N H). record m { contents = (given_back pool slot).contents })
          (held-changed slot (get_or pool.holders slot 0 - 1) (pool.looks + 2) (get_or (held_of pool.holders s.queues) slot 0 - 1) has_holder
          (omega (arith, held_is slot)))
          ∙ ap (λ contents. record held_less { contents = contents }) (contents-given_back pool slot held_less refl used_less)

      pub sound-give_back : IsSound (given_back pool slot) heads s
      sound-give_back = sound-given_back pool heads s slot (record {
        covered = λ k. ⊎_elim
            (λ e. let here : get_or (slice_set pool.holders slot (get_or pool.holders slot 0 - 1)) slot 0
            ≡ get_or pool.holders slot 0 - 1 = get_or-set_same pool.holders slot (get_or pool.holders slot 0 - 1) 0
            (within_holders slot has_holder) in
            omega (
              arith,
              held_is slot,
              here,
              ap (λ j. get_or (slice_set pool.holders slot (get_or pool.holders slot 0 - 1)) j 0) e,
              ap (λ j. times j (all_entries s.queues)) e,
            ))
            (λ n. omega (arith, sound.covered k, get_or-set_other pool.holders slot k (get_or pool.holders slot 0 - 1) 0 n))
            (cases_eq k slot);
        one_body_each = omega (arith, sound.one_body_each, length-set pool.holders slot (get_or pool.holders slot 0 - 1));
        one_head_each = omega (arith, sound.one_head_each, length-set pool.holders slot (get_or pool.holders slot 0 - 1));
      })

    -- a slot that the pool hands out
    module _ (slot : ℕ) (free : slice_get pool.holders slot ≡ Some 0) where
      no_holder : get_or pool.holders slot 0 ≡ 0
      no_holder = get_or_from_slice_get pool.holders slot 0 0 free

      pub no_entry : times slot (all_entries s.queues) ≡ 0
      no_entry = omega (arith, held_is slot, no_holder)

      pub no_handle : slice_get (held_of pool.holders s.queues) slot ≡ Some 0
      no_handle =
          slice_get-get_or (held_of pool.holders s.queues) slot 0
          (omega (arith, slice_get_within pool.holders slot 0 free, length-held_of pool.holders s.queues))
          ∙ (let none : get_or (held_of pool.holders s.queues) slot 0 ≡ 0 = omega (arith, held_is slot, no_holder) in ap Some none)

      pub state-loan : (len : ℕ) (details : N) (header : H) → messages (acquired pool slot len)
          (slice_set heads slot (record { details = details; user_header = header })) s ≡ loaned (messages pool heads s) slot len details
          header
      state-loan len details header =
          ap (λ all. record
          (messages (acquired pool slot len) (slice_set heads slot (record { details = details; user_header = header })) s)
          { details = all }) (map-set (λ (h : Head N H). h.details) heads slot (record { details = details; user_header = header }))
          ∙ ap (λ headers. record (messages (acquired pool slot len) heads s)
          { details = slice_set (details_of heads) slot details; user_headers = headers })
          (map-set (λ (h : Head N H). h.user_header) heads slot (record { details = details; user_header = header }))
          ∙ ap (λ held. record (loaned (messages pool heads s) slot len details header) { held = held })
          (held-set slot 1 1 (slice_get_within pool.holders slot 0 free) (omega (arith, no_entry)))

  pub sound-new : (slots room receivers channels capacity : ℕ) (heads : List (Head N H)) → length heads ≡ slots
      → IsSound {T = T} (free_slots slots room) heads (nothing_sent receivers channels capacity)
  sound-new slots room receivers channels capacity heads len = record {
    covered = λ k. omega (arith, times-empty k receivers channels);
    one_body_each = omega (arith, length-replicate slots (nothing_written {T = T} room), length-replicate {A = ℕ} slots 0);
    one_head_each = omega (arith, len, length-replicate {A = ℕ} slots 0);
  }

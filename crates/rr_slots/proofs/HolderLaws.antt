-- What the holders' calls do to slots of which every free one is led through.
use Rattle.std.proofs.Common.{◌≡◌, ℕ, suc, zero, ◌+◌, ◌-◌, ◌<◌, ◌≤◌, Some, option_map, true, false, List, [], ◌∷◌, ◌++◌, get_or, length, map, refl, sym, ap, ◌∙◌, subst, ⊎_elim, arith}
use Rattle.std.specs.Prelude.{slice_set, slice_get, ◌==◌, not, cond, count_by, replicate}
use Rattle.std.proofs.lemmas.Bool.{cases_lt}
use Rattle.std.proofs.lemmas.List.{map-set, map-append, length-map, length-append, length-set, get_or-append_right, replicate_more}
use Rattle.std.proofs.lemmas.List.Sums.{count_by-le-length, sum_by-cons}
use Rattle.std.proofs.Math.ListN.{get_or-append}
use Rattle.std.proofs.lemmas.Option.{get_or_from_slice_get, slice_get-map, slice_get_within}
use Rattle.rr_slots.specs.declared.slot.Slot.{Slot}
use Rattle.rr_slots.specs.Threads.{slot_with, holders_of, next_of, all_free, IsThreaded, LeadsThroughFree}
use Rattle.rr_slots.proofs.ThreadLaws.{first_zero, first_within, leads_after_take, leads_after_free, leads_as_before, leads_at_last}

module _ (slots : List Slot) where
  -- what stands at a slot, as numbers
  pub holders_at : (i d : ℕ) (s : Slot) → slice_get slots i ≡ Some s → get_or (map holders_of slots) i d ≡ holders_of s
  holders_at i d s e = get_or_from_slice_get (map holders_of slots) i (holders_of s) d
      (slice_get-map holders_of slots i ∙ ap (λ o. option_map holders_of o) e)

  pub next_at : (i d : ℕ) (s : Slot) → slice_get slots i ≡ Some s → get_or (map next_of slots) i d ≡ next_of s
  next_at i d s e = get_or_from_slice_get (map next_of slots) i (next_of s) d
      (slice_get-map next_of slots i ∙ ap (λ o. option_map next_of o) e)

  module _ (first : ℕ) where
    -- where a slot is free, the first one is within, and free
    pub first_inside : (free : ℕ) → IsThreaded slots first free → (free ≡ 0 → ⊥) → first < length slots
    first_inside zero t some = absurd (some refl)
    first_inside (suc n) t some = omega (arith, first_within t, length-map slots holders_of)

    pub first_within_holders : (free : ℕ) → IsThreaded slots first free → (free ≡ 0 → ⊥) → first < length (map holders_of slots)
    first_within_holders free t some = omega (arith, first_inside free t some, length-map slots holders_of)

    pub first_is_free : (free : ℕ) → IsThreaded slots first free → (free ≡ 0 → ⊥) → get_or (map holders_of slots) first 1 ≡ 0
    first_is_free zero t some = absurd (some refl)
    first_is_free (suc n) t some = first_zero t

    pub taken : (free : ℕ) (s : Slot) → slice_get slots first ≡ Some s → IsThreaded slots first free → (free ≡ 0 → ⊥)
        → IsThreaded (slice_set slots first (slot_with 1 s.next)) s.next (free - 1)
    taken zero s e t some = absurd (some refl)
    taken (suc n) s e t some =
        rw (map-set holders_of slots first (slot_with 1 s.next)) (rw (map-set next_of slots first (slot_with 1 s.next))
        (let P : ℕ → ℕ → Type 0 = λ x m. LeadsThroughFree (slice_set (map holders_of slots) first 1)
        (slice_set (map next_of slots) first s.next) x m in
        subst (λ m. P s.next m) (sym (omega arith)) (subst (λ x. P x n) (next_at first 0 s e) (leads_after_take s.next t))))

    module _ (free : ℕ) where
      pub freed : (slot : ℕ) (s : Slot) → slice_get slots slot ≡ Some s → s.holders ≡ 1 → IsThreaded slots first free
          → IsThreaded (slice_set slots slot (slot_with 0 first)) slot (free + 1)
      freed slot s e last t =
          rw (map-set holders_of slots slot (slot_with 0 first)) (rw (map-set next_of slots slot (slot_with 0 first))
          (leads_after_free slot (omega (arith, slice_get_within slots slot s e, length-map slots next_of))
          (holders_at slot 0 s e ∙ last) t))

      pub kept : (slot m x : ℕ) (s : Slot) → slice_get slots slot ≡ Some s → 0 < s.holders → 0 < m → IsThreaded slots first free
          → IsThreaded (slice_set slots slot (slot_with m x)) first free
      kept slot m x s e held more t =
          rw (map-set holders_of slots slot (slot_with m x)) (rw (map-set next_of slots slot (slot_with m x))
          (leads_as_before slot m x (omega (arith, held, holders_at slot 0 s e)) more t))

-- the slots that are free, and those that are not
pub all_counted : (holders : List ℕ) → count_by (λ h. h == 0) holders + count_by (λ h. not (h == 0)) holders ≡ length holders
all_counted [] = refl
all_counted (h ∷ hs) =
    let split : cond (h == 0) 1 0 + cond (not (h == 0)) 1 0 ≡ 1 = elim
    (h == 0) as (λ b. cond b 1 0 + cond (not b) 1 0 ≡ 1) [ true ↦ refl | false ↦ refl ] in
    omega (arith, all_counted hs, split, sum_by-cons (λ n. cond (n == 0) 1 0) h hs, sum_by-cons (λ n. cond (not (n == 0)) 1 0) h hs)

-- free slots, each followed by the one before it
length-all_free : (n : ℕ) → length (all_free n) ≡ n
length-all_free zero = refl
length-all_free (suc n) = length-append (all_free n) (slot_with 0 (n - 1) ∷ []) ∙ omega (arith, length-all_free n)

pub holders-all_free : (n : ℕ) → map holders_of (all_free n) ≡ replicate n 0
holders-all_free zero = refl
holders-all_free (suc n) =
    map-append holders_of (all_free n) (slot_with 0 (n - 1) ∷ []) ∙ ap (λ xs. xs ++ 0 ∷ []) (holders-all_free n) ∙ replicate_more n 0
    ∙ let more : n + 1 ≡ suc n = omega arith in ap (λ k. replicate {A = ℕ} k 0) more

next-all_free : (n i : ℕ) → i < n → get_or (map next_of (all_free n)) i 0 ≡ i - 1
next-all_free zero i h = absurd (omega arith)
next-all_free (suc n) i h =
    rw (map-append next_of (all_free n) (slot_with 0 (n - 1) ∷ []))
    (let len : length (map next_of (all_free n)) ≡ n = length-map (all_free n) next_of ∙ length-all_free n in
    ⊎_elim
    (λ l. get_or-append {A = ℕ} (map next_of (all_free n)) ((n - 1) ∷ []) 0 i (omega (arith, len)) ∙ next-all_free n i l)
    (λ l. let last : i - n ≡ 0 = omega arith in
    get_or-append_right {X = ℕ} (map next_of (all_free n)) ((n - 1) ∷ []) n i 0 len l ∙ ap {B = ℕ} (λ k. get_or ((n - 1) ∷ []) k 0) last
    ∙ omega arith)
    (cases_lt i n))

pub all_threaded : (n : ℕ) → IsThreaded (all_free n) (n - 1) n
all_threaded n = rw (holders-all_free n) (leads_at_last n (map next_of (all_free n)) (next-all_free n))

-- no more slots are free than there are, and a write adds none
pub free_within : (slots : List Slot) (slot first free : ℕ) (state : Slot) → IsThreaded (slice_set slots slot state) first free
    → free ≤ length slots
free_within slots slot first free state t =
    let changed : List Slot = slice_set slots slot state in
    omega (
      arith,
      t.stored,
      count_by-le-length (λ h. h == 0) (map holders_of changed),
      length-map changed holders_of,
      length-set slots slot state,
    )

-- Whether a receiver has a message from some sender, and whether something that is counted is there.
use Rattle.std.proofs.Common.{◌≡◌, ◌<◌, ◌+◌, ℕ, Bool, true, false, List, [], ◌∷◌, Some, length, nat_lt, refl, sym, ap, ◌∙◌, ⊎_elim, arith}
use Rattle.std.specs.Prelude.{◌==◌, ◌&&◌, ◌||◌, count_by, slice_get, slice_index_or}
use Rattle.std.specs.Cmp.{both_ways}
use Rattle.std.specs.List.{list_any}
use Rattle.std.specs.Ordering.{nat_cmp}
use Rattle.std.specs.FinMap as fin_map
use Rattle.std.proofs.lemmas.Bool.{and_from, and_parts, cases_lt, eq-eqb, eqb-true, false≢true, lt-ltb, ltb-false, ltb-true, or_cases, or_left, or_right}
use Rattle.std.proofs.lemmas.List.{get_or_past}
use Rattle.std.proofs.lemmas.List.Folds.{list_any_at}
use Rattle.std.proofs.lemmas.Option.{get_or_from_slice_get, slice_get_within}
use Rattle.rr_table.specs.Maps.{mark, tally}
use Rattle.rr_table.proofs.Counting.{count-cons}
use Rattle.rr_table.proofs.MapLaws.{tally-at}
use Rattle.rr_table.proofs.Members.{any_gives, any_there, tally_gives}
use Rattle.rr_sender.specs.Senders.{borrowed_at}
use Rattle.rr_store.specs.Leaving.{is_borrowing}
use Rattle.rr_store.specs.Order.{IsRising}
use Rattle.rr_store.specs.Parts.{Sender}
use Rattle.rr_store.specs.Views.{no_sender, sender_of}
use Rattle.rr_store.proofs.base.lists.Rising.{rising_once}

-- some element passes where those that do are counted above zero
pub any_counted : {X : Type 0} (t : X → Bool) (xs : List X) → list_any t xs ≡ nat_lt 0 (count_by t xs)
any_counted t [] = refl
any_counted t (x ∷ xs) = ap (λ b. t x || b) (any_counted t xs) ∙ go (t x) (count_by t xs) ∙ sym (ap (nat_lt 0) (count-cons t x xs))
  where
    go : (b : Bool) (n : ℕ) → (b || nat_lt 0 n) ≡ nat_lt 0 (mark b + n)
    go true n = sym (lt-ltb 0 (mark true + n) (omega arith))
    go false n = ap (nat_lt 0) (omega arith)

module _ {X : Type 0} (m : fin_map.FinMap nat_cmp X) where
  -- a value that passes is counted
  pub some_counted : (t : X → Bool) (k : ℕ) (x : X) → fin_map.get m k ≡ Some x → t x ≡ true → nat_lt 0 (tally t m) ≡ true
  some_counted t k x at h = lt-ltb 0 (tally t m) (tally-at t m k x at h)

  -- some value passes one of two tests where some passes the first or some the second
  pub tally-either : (a b : X → Bool) → nat_lt 0 (tally (λ x. a x || b x) m) ≡ (nat_lt 0 (tally a m) || nat_lt 0 (tally b m))
  tally-either a b = both_ways (nat_lt 0 (tally (λ x. a x || b x) m)) (nat_lt 0 (tally a m) || nat_lt 0 (tally b m))
      (λ h.
      let g = tally_gives (λ x. a x || b x) m (ltb-true 0 (tally (λ x. a x || b x) m) h) in
      ⊎_elim
      (λ e. or_left (nat_lt 0 (tally a m)) (nat_lt 0 (tally b m)) (some_counted a g.0 g.1 g.2 e))
      (λ e. or_right (nat_lt 0 (tally a m)) (nat_lt 0 (tally b m)) (some_counted b g.0 g.1 g.2 e))
      (or_cases (a g.1) (b g.1) g.3))
      (λ h. ⊎_elim
      (λ e. let g = tally_gives a m (ltb-true 0 (tally a m) e) in
      some_counted (λ x. a x || b x) g.0 g.1 g.2 (or_left (a g.1) (b g.1) g.3))
      (λ e. let g = tally_gives b m (ltb-true 0 (tally b m) e) in
      some_counted (λ x. a x || b x) g.0 g.1 g.2 (or_right (a g.1) (b g.1) g.3))
      (or_cases (nat_lt 0 (tally a m)) (nat_lt 0 (tally b m)) h))

-- what is asked of those with a number is asked of the only one that has it
pub asked_alone : {X : Type 0} (read : X → ℕ) (test : X → Bool) (xs : List X) → IsRising read xs → (i : ℕ) (x : X) → slice_get xs i ≡ Some x
    → list_any (λ y. read y == read x && test y) xs ≡ test x
asked_alone read test xs rising i x at = both_ways (list_any (λ y. read y == read x && test y) xs) (test x)
    (λ h.
    let g = any_gives (λ y. read y == read x && test y) xs h in
    let parts = and_parts (read g.1 == read x) (test g.1) g.3 in
    let here = rising_once read xs rising g.0 i g.1 x g.2 at (eqb-true (read g.1) (read x) parts.0) in
    let same : Some g.1 ≡ Some x = sym g.2 ∙ ap (slice_get xs) here ∙ at in
    let is : g.1 ≡ x = cc in
    sym (ap test is) ∙ parts.1)
    (λ h. any_there (λ y. read y == read x && test y) xs i x at (and_from (read x == read x) (test x) (eq-eqb (read x) (read x) refl) h))

module _ {T N H : Type 0} (senders : List (Sender T N H)) (receiver : ℕ) where
  -- how many messages a receiver has from each channel of a sender
  abbrev pub counts : ℕ → List ℕ
  counts sender = slice_index_or (sender_of sender senders).messages.borrowed receiver []

  -- a receiver that has a message from a sender on a channel has one
  pub borrowing_there : (sender channel : ℕ) → 0 < borrowed_at (sender_of sender senders).messages receiver channel
      → is_borrowing senders receiver ≡ true
  borrowing_there sender channel h =
      list_any_at (λ (l : Sender T N H). list_any (λ n. nat_lt 0 n) (slice_index_or l.messages.borrowed receiver [])) senders sender
      no_sender within (list_any_at (λ n. nat_lt 0 n) (counts sender) channel 0 inside
      (lt-ltb 0 (borrowed_at (sender_of sender senders).messages receiver channel) h))
    where
      within : sender < length senders
      within = ⊎_elim (λ e. e)
          (λ e. absurd (omega (
            arith,
            h,
            ap (λ (l : Sender T N H). borrowed_at l.messages receiver channel) (get_or_past senders sender no_sender e),
          )))
          (cases_lt sender (length senders))

      inside : channel < length (counts sender)
      inside = ⊎_elim (λ e. e) (λ e. absurd (omega (arith, h, get_or_past (counts sender) channel 0 e)))
          (cases_lt channel (length (counts sender)))

  -- a receiver that has a message has it from a sender on a channel
  pub borrowing_gives : is_borrowing senders receiver ≡ true
      → (sender : ℕ) × (channel : ℕ) × (sender < length senders) × (channel < length (counts sender))
      × (0 < borrowed_at (sender_of sender senders).messages receiver channel)
  borrowing_gives h =
      let f = any_gives (λ (l : Sender T N H). list_any (λ n. nat_lt 0 n) (slice_index_or l.messages.borrowed receiver [])) senders h in
      let g = any_gives (λ n. nat_lt 0 n) (slice_index_or f.1.messages.borrowed receiver []) f.3 in
      let is : sender_of f.0 senders ≡ f.1 = get_or_from_slice_get senders f.0 f.1 no_sender f.2 in
      let at : slice_get (counts f.0) g.0 ≡ Some g.1 =
      ap (λ (l : Sender T N H). slice_get (slice_index_or l.messages.borrowed receiver []) g.0) is ∙ g.2 in (
        f.0,
        g.0,
        slice_get_within senders f.0 f.1 f.2,
        slice_get_within (counts f.0) g.0 g.1 at,
        omega (arith, get_or_from_slice_get (counts f.0) g.0 g.1 0 at, ltb-true 0 g.1 g.3),
      )

  -- and one that has none has none from any
  pub borrowing_none : is_borrowing senders receiver ≡ false → (sender channel : ℕ)
      → borrowed_at (sender_of sender senders).messages receiver channel ≡ 0
  borrowing_none none sender channel = ⊎_elim
      (λ h. absurd (false≢true (sym none ∙ borrowing_there sender channel h)))
      (λ h. omega (arith, h))
      (cases_lt 0 (borrowed_at (sender_of sender senders).messages receiver channel))

-- a count that is not above zero is zero
pub not_counted : (n : ℕ) → nat_lt 0 n ≡ false → n ≡ 0
not_counted n h = omega (arith, ltb-false 0 n h)

-- The senders of one side after a slot of one sender was loaned: that slot alone is held once more, and has new details.
use Rattle.std.proofs.Common.{◌≡◌, ◌<◌, ◌+◌, ℕ, false, true, List, get_or, length, refl, sym, ap, ◌∙◌, ⊎_elim, arith}
use Rattle.std.specs.Prelude.{◌==◌, ◌&&◌, slice_index, slice_set}
use Rattle.std.proofs.lemmas.Bool.{cases_eq, eq-eqb, ne_eqb}
use Rattle.std.proofs.lemmas.List.{get_or-set_same, get_or-set_other}
use Rattle.rr_table.specs.Maps.{mark}
use Rattle.rr_store.specs.Parts.{Sender}
use Rattle.rr_store.specs.Views.{no_sender, sender_of}

-- two slots of a sender are told apart
pub other_slot : (l i k j : ℕ) → l ≡ k → (i ≡ j → ⊥) → (l == k && i == j) ≡ false
other_slot l i k j e n = rw (eq-eqb l k e) (ne_eqb i j n)

-- and so are two senders
pub other_senders : (l i k j : ℕ) → (l ≡ k → ⊥) → (l == k && i == j) ≡ false
other_senders l i k j n = rw (ne_eqb l k n) refl

-- a slot is this one, or another
pub slot_cases : {Z : Type 0} (l i k j : ℕ) → (l ≡ k → i ≡ j → Z) → ((l == k && i == j) ≡ false → ((l ≡ k) → (i ≡ j) → ⊥) → Z) → Z
slot_cases l i k j here there =
    ⊎_elim
    (λ e. ⊎_elim (λ f. here e f) (λ n. there (other_slot l i k j e n) (λ _ f. n f)) (cases_eq i j))
    (λ n. there (other_senders l i k j n) (λ e _. n e))
    (cases_eq l k)

-- a slot is itself
pub both_true : (l i k j : ℕ) → l ≡ k → i ≡ j → (l == k && i == j) ≡ true
both_true l i k j e f = rw (eq-eqb l k e) (eq-eqb i j f)

module _ {T N H : Type 0} (senders : List (Sender T N H)) (l slot : ℕ) (fresh : Sender T N H) (inside : l < length senders) where
  here : sender_of l (slice_set senders l fresh) ≡ fresh
  here = get_or-set_same senders l fresh no_sender inside

  there : (k : ℕ) → (l ≡ k → ⊥) → sender_of k (slice_set senders l fresh) ≡ sender_of k senders
  there k n = get_or-set_other senders l k fresh no_sender (λ e. n (sym e))

  -- one slot is held once more
  pub held_once_more : fresh.messages.held ≡ slice_set (sender_of l senders).messages.held slot 1
      → slot < length (sender_of l senders).messages.held → slice_index (sender_of l senders).messages.held slot ≡ 0 → (k j : ℕ)
      → slice_index (sender_of k (slice_set senders l fresh)).messages.held j
      ≡ slice_index (sender_of k senders).messages.held j + mark (l == k && slot == j)
  held_once_more entry within none k j =
      let m = (sender_of l senders).messages in
      ⊎_elim
      (λ e.
      let now : slice_index (sender_of k (slice_set senders l fresh)).messages.held j ≡ slice_index (slice_set m.held slot 1) j =
      ap (λ (x : Sender T N H). slice_index x.messages.held j) (sym (ap (λ k. sender_of k (slice_set senders l fresh)) e) ∙ here)
      ∙ ap (λ h. slice_index h j) entry in
      let old : slice_index (sender_of k senders).messages.held j ≡ slice_index m.held j =
      sym (ap (λ k. slice_index (sender_of k senders).messages.held j) e) in
      ⊎_elim
      (λ f. omega (
        arith,
        now,
        old,
        ap (λ b. slice_index (slice_set m.held slot 1) b) (sym f),
        get_or-set_same m.held slot 1 0 within,
        ap (λ b. slice_index m.held b) f,
        none,
        ap mark (both_true l slot k j e f),
      ))
      (λ n. omega (arith, now, old, get_or-set_other m.held slot j 1 0 (λ f. n (sym f)), ap mark (other_slot l slot k j e n)))
      (cases_eq slot j))
      (λ n. omega (
        arith,
        ap (λ (x : Sender T N H). slice_index x.messages.held j) (there k n),
        ap mark (other_senders l slot k j n),
      ))
      (cases_eq l k)

  -- the details of another slot stays
  pub noted_elsewhere : (details none : N) → fresh.messages.details ≡ slice_set (sender_of l senders).messages.details slot details
      → (k j : ℕ)
      → ((l ≡ k) → (slot ≡ j) → ⊥)
      → get_or (sender_of k (slice_set senders l fresh)).messages.details j none ≡ get_or (sender_of k senders).messages.details j none
  noted_elsewhere details none noted k j n =
      ⊎_elim
      (λ e. ap (λ (x : Sender T N H). get_or x.messages.details j none) (sym (ap (λ k. sender_of k (slice_set senders l fresh)) e) ∙ here)
      ∙ ap (λ ns. get_or ns j none) noted
      ∙ get_or-set_other (sender_of l senders).messages.details slot j details none (λ f. n e (sym f))
      ∙ ap (λ k. get_or (sender_of k senders).messages.details j none) e)
      (λ far. ap (λ (x : Sender T N H). get_or x.messages.details j none) (there k far))
      (cases_eq l k)

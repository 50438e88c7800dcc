-- What each sender counts still follows its handles, after one sender's count did.
use Rattle.std.proofs.Common.{◌≡◌, ◌≢◌, ◌<◌, ◌+◌, ℕ, Bool, true, false, List, length, refl, sym, ap, ⊎_elim, arith}
use Rattle.std.specs.Prelude.{◌==◌, ◌&&◌, slice_set}
use Rattle.std.proofs.lemmas.Bool.{cases_eq, eq-eqb, ne_eqb}
use Rattle.std.proofs.lemmas.List.{get_or-set_same, get_or-set_other, length-set}
use Rattle.rr_table.specs.Maps.{mark}
use Rattle.rr_store.specs.Parts.{Sender}
use Rattle.rr_store.specs.Views.{sender_of, no_sender}

-- what a handle of a sender adds to the sender's count, and to another's
pub its_mark : (b : Bool) (l k : ℕ) → l ≡ k → mark (b && l == k) ≡ mark b
its_mark true l k e = ap mark (eq-eqb l k e)
its_mark false l k e = refl

pub other_mark : (b : Bool) (l k : ℕ) → l ≢ k → mark (b && l == k) ≡ 0
other_mark true l k n = ap mark (ne_eqb l k n)
other_mark false l k n = refl

-- `was` and `is` are how many handles each sender has before and after, where one handle of the sender at an index was counted before
-- or is counted after
pub counted_set : {T N H : Type 0} (senders : List (Sender T N H)) (sender : ℕ) (fresh : Sender T N H) → sender < length senders
    → (count : Sender T N H → ℕ) (before after : Bool) (was is : ℕ → ℕ)
    → ((l : ℕ) → was l + mark (after && sender == l) ≡ is l + mark (before && sender == l))
    → count fresh + mark before ≡ count (sender_of sender senders) + mark after
    → ((l : ℕ) → l < length senders → count (sender_of l senders) ≡ was l) → (l : ℕ) → l < length (slice_set senders sender fresh)
    → count (sender_of l (slice_set senders sender fresh)) ≡ is l
counted_set senders sender fresh there count before after was is each now old l h =
    ⊎_elim
    (λ e. omega (
      arith,
      now,
      each l,
      its_mark before sender l e,
      its_mark after sender l e,
      ap count (get_or-set_same senders sender fresh no_sender there),
      ap (λ l. count (sender_of l (slice_set senders sender fresh))) e,
      ap (λ l. count (sender_of l senders)) e,
      old l (omega (arith, h, length-set senders sender fresh)),
    ))
    (λ n. omega (
      arith,
      each l,
      other_mark before sender l n,
      other_mark after sender l n,
      ap count (get_or-set_other senders sender l fresh no_sender (λ e. n (sym e))),
      old l (omega (arith, h, length-set senders sender fresh)),
    ))
    (cases_eq sender l)

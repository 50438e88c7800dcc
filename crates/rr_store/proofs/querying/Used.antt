-- What a call asks of each sender, and what is left of a port's use where its first counts are zero.
use Rattle.std.proofs.Common.{◌≡◌, ◌<◌, ℕ, Bool, false, List, Some, length, map, sym, ap, ◌∙◌, subst}
use Rattle.std.specs.Prelude.{◌||◌, slice_get}
use Rattle.std.proofs.lemmas.Option.{get_or_from_slice_get, slice_get_within}
use Rattle.rr_store.specs.declared.port.OwnedSender.{OwnedSender}
use Rattle.rr_store.specs.Parts.{Sender}
use Rattle.rr_store.specs.Ports.{sender_part}
use Rattle.rr_store.specs.Views.{no_sender, sender_of}
use Rattle.rr_store.proofs.base.views.Counts.{listed}

-- what is asked of each sender that is seen holds of each that is stored
pub each_stored : {B N H T : Type 0} (items slice : List (OwnedSender B N H T)) → slice ≡ items → (R : Sender T N H → Type 0)
    → ((l : ℕ) → l < length (map sender_part items) → R (sender_of l (map sender_part items)))
    → (i : ℕ) (l : OwnedSender B N H T) → slice_get slice i ≡ Some l → R (sender_part l)
each_stored {B} {N} {H} {T} items slice same R each i l at =
    let there = listed sender_part items i l (ap (λ (xs : List (OwnedSender B N H T)). slice_get xs i) (sym same) ∙ at) in
    subst R (get_or_from_slice_get (map sender_part items) i (sender_part l) no_sender there)
    (each i (slice_get_within (map sender_part items) i (sender_part l) there))

-- where the first of three fail, the last decides
pub last_of_three : (a b c : Bool) → a ≡ false → b ≡ false → (a || (b || c)) ≡ c
last_of_three a b c e f = ap (λ a. a || (b || c)) e ∙ ap (λ b. b || c) f

-- and of four
pub last_of_four : (a b c d : Bool) → a ≡ false → b ≡ false → c ≡ false → (a || (b || (c || d))) ≡ d
last_of_four a b c d e f g = last_of_three a b (c || d) e f ∙ ap (λ c. c || d) g

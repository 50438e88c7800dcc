-- Steps of the calls that drop what waits in queues as a port leaves.
use Rattle.std.proofs.Common.{◌≡◌, ◌<◌, ◌||◌, ◌&&◌, ℕ, zero, suc, Bool, true, false, List, [], ◌∷◌, Some, length, get_or, map, refl, sym, take, ap, ◌∙◌, subst, ⊎_elim, arith}
use Rattle.std.specs.Prelude.{◌==◌, ◌↔◌, All, IsTrue, nat_lt, slice_get, slice_set}
use Rattle.std.specs.List.{AllByRecursion, list_any}
use Rattle.std.proofs.lemmas.Bool.{cases_eq, eq-eqb, false≢true, lt-ltb, ne_eqb}
use Rattle.std.proofs.lemmas.List.{get_or_default, length-map}
use Rattle.std.proofs.lemmas.List.Folds.{list_any_none}
use Rattle.rr_sender.specs.Draining.{MessagesDrained}
use Rattle.rr_sender.specs.Senders.{Messages}
use Rattle.rr_store.specs.declared.port.OwnedSender.{OwnedSender}
use Rattle.rr_store.specs.Draining.{SendersDrained}
use Rattle.rr_store.specs.Leaving.{has_queued}
use Rattle.rr_store.specs.Parts.{Sender}
use Rattle.rr_store.specs.Ports.{sender_part}
use Rattle.rr_store.specs.Views.{sender_of}
use Rattle.rr_store.specs.Writing.{with_messages}
use Rattle.rr_store.proofs.base.senders.Stored.{stored_is, stored_set}
use Rattle.rr_store.proofs.leaving.Drained.{drained_set, row_kept}

-- whether a row of queues has an entry
abbrev pub any_queued : List (List ℕ) → Bool
any_queued row = list_any (λ queue. nat_lt 0 (length queue)) row

-- none has one where the test fails
queued_none : (row : List (List ℕ)) → any_queued row ≡ false → (channel : ℕ) → get_or row channel [] ≡ []
queued_none [] none channel = refl
queued_none ([] ∷ row) none zero = refl
queued_none ((x ∷ xs) ∷ row) none channel =
    absurd (false≢true (sym none ∙ ap (λ b. b || any_queued row) (lt-ltb 0 (length (x ∷ xs)) (omega arith))))
queued_none ([] ∷ row) none (suc channel) = queued_none row none channel

-- the answer of a sender
pub queued_is : (b : Bool) (row : List (List ℕ)) → (IsTrue b → ⊥) ↔ All (λ queue. queue ≡ []) row → b ≡ any_queued row
queued_is false row told =
    sym (list_any_none (λ (queue : List ℕ). nat_lt 0 (length queue)) row
    (λ i queue h. ap (λ (queue : List ℕ). nat_lt 0 (length queue)) (told.0 false≢true i queue h)))
queued_is true row told = go (any_queued row) refl
  where
    go : (b : Bool) → any_queued row ≡ b → true ≡ any_queued row
    go true e = sym e
    go false e = absurd (told.1 (λ i queue h. get_or_default row i queue [] h ∙ queued_none row e i) refl)

-- what is true of the first elements, by their places
pub early : {X : Type 0} (P : X → Type 0) (i : ℕ) (xs : List X) → ((j : ℕ) (y : X) → j < i → slice_get xs j ≡ Some y → P y)
    → AllByRecursion P (take i xs)
early P zero xs each = tt
early P (suc i) [] each = tt
early P (suc i) (x ∷ xs) each = (each 0 x (omega arith) refl, early P i xs (λ j y h at. each (suc j) y (omega (arith, h)) at))

-- none passes where each fails
pub none_of : {X : Type 0} (t : X → Bool) (xs : List X) → AllByRecursion (λ x. t x ≡ false) xs → list_any t xs ≡ false
none_of t [] all = refl
none_of t (x ∷ xs) all = ap (λ b. b || list_any t xs) all.0 ∙ none_of t xs all.1

-- one test after another, and both
pub spread : (a e b : Bool) → (a && b) || (e && b) ≡ ((a || e) && b)
spread true true true = refl
spread true true false = refl
spread true false true = refl
spread true false false = refl
spread false true b = elim b as (λ b. (false || b) ≡ b) [ true ↦ refl | false ↦ refl ]
spread false false b = refl

-- two tests that follow a third
pub gather : (e a s : Bool) → (e && a) || (s && e) ≡ (e && (a || (s || false)))
gather true true true = refl
gather true true false = refl
gather true false true = refl
gather true false false = refl
gather false a true = refl
gather false a false = refl

-- numbers are equal either way about
pub turned : (a b : ℕ) → (a == b) ≡ (b == a)
turned a b = ⊎_elim
    (λ e. eq-eqb a b e ∙ sym (eq-eqb b a (sym e)))
    (λ n. ne_eqb a b n ∙ sym (ne_eqb b a (λ e. n (sym e))))
    (cases_eq a b)

-- a sender that is stored was drained
pub stored_drained : {B N H T : Type 0} (cut : ℕ → Bool) (items : List (OwnedSender B N H T)) (sender : ℕ) (x : OwnedSender B N H T)
    → sender < length items → x ≡ get_or items sender x → (m : Messages T N H) → MessagesDrained cut x.messages m
    → SendersDrained (λ l r. l == sender && cut r) (map sender_part items)
    (map sender_part (slice_set items sender (with_messages x m)))
stored_drained {B} {N} {H} {T} cut items sender x there read m drained =
    let within : sender < length (map sender_part items) = omega (arith, there, length-map items sender_part) in
    subst (λ after. SendersDrained (λ l r. l == sender && cut r) (map sender_part items) after)
    (sym (stored_set items sender x within read m (λ _. m) refl))
    (drained_set cut (map sender_part items) sender m within
    (subst (λ (y : Sender T N H). MessagesDrained cut y.messages m) (sym (stored_is items sender x within read)) drained))

module _ {T N H : Type 0} where
  -- a sender has an entry as before where none of its queues to a receiver was cleared
  pub queued_kept : (cut : ℕ → ℕ → Bool) (a b : List (Sender T N H)) → SendersDrained cut a b → (l r : ℕ) → cut l r ≡ false
      → has_queued (sender_of l b) r ≡ has_queued (sender_of l a) r
  queued_kept cut a b drained l r none = ap any_queued (row_kept cut a b drained l r none)

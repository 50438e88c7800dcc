-- What a call makes is known by its number.
use Rattle.std.proofs.Common.{◌≡◌, ℕ, Option, Some, None, Result, Ok, Err, ap, refl, sym, subst}
use Rattle.rr_ports.specs.declared.try_send.Refused.{Refused}
use Rattle.rr_shared_ports.specs.declared.error.CallError.TheVariants.{Port, NumbersExhausted}
use Rattle.rr_shared_ports.specs.declared.error.CallError.{CallError}
use Rattle.rr_shared_ports.specs.Calls.{IsAnswer, IsMade, IsReceived, IsSpent, IsTried}
use Rattle.rr_shared_ports.specs.Turns.{Answered}

-- what holds of some values holds of equal ones
pub at : {S R : Type 0} (Holds : S → ℕ → R → S → Type 0) {old shown : S} {n handle : ℕ} {result returned : R} {new left : S}
    → shown ≡ old → handle ≡ n → result ≡ returned → left ≡ new → Holds shown handle returned left → Holds old n result new
at Holds {old} {shown} {n} {handle} {result} {returned} {new} {left} is_old is_n is_result is_new holds =
    subst (λ s. Holds s n result new) is_old
    (subst (λ m. Holds shown m result new) is_n (subst (λ r. Holds shown handle r new) (sym is_result) (subst (λ s. Holds shown handle returned s) is_new holds)))

-- the same of what no handle is told of
pub at_made : {S R : Type 0} (Holds : S → R → S → Type 0) {old shown : S} {result returned : R} {new left : S} → shown ≡ old → result ≡ returned → left ≡ new
    → Holds shown returned left → Holds old result new
at_made Holds {old} {shown} {result} {returned} {new} {left} is_old is_result is_new holds =
    subst (λ s. Holds s result new) is_old (subst (λ r. Holds shown r new) (sym is_result) (subst (λ s. Holds shown returned s) is_new holds))

-- the same of what no result is told of
pub at_state : {S : Type 0} (Holds : S → ℕ → S → Type 0) {old shown : S} {n handle : ℕ} {new left : S} → shown ≡ old → handle ≡ n → left ≡ new
    → Holds shown handle left → Holds old n new
at_state Holds {old} {shown} {n} {handle} {new} {left} is_old is_n is_new holds =
    subst (λ s. Holds s n new) is_old (subst (λ m. Holds shown m new) is_n (subst (λ s. Holds shown handle s) is_new holds))

module _ {E : Type 0} where
  -- a number is known by itself
  pub is_made : (made named : Result ℕ E) → IsMade (λ n. n) made named → named ≡ made
  is_made (Ok made) (Ok named) same = ap Ok same
  is_made (Err error) (Err named) same = ap Err same
  is_made (Ok made) (Err named) same = elim same [ ]
  is_made (Err error) (Ok named) same = elim same [ ]

  pub is_received : (received named : Result (Option ℕ) E) → IsReceived (λ n. n) received named → named ≡ received
  is_received (Ok (Some received)) (Ok (Some named)) same = ap (λ n. Ok (Some n)) same
  is_received (Ok None) (Ok None) same = refl
  is_received (Err error) (Err named) same = ap Err same
  is_received (Ok None) (Ok (Some named)) same = elim same [ ]
  is_received (Ok None) (Err named) same = elim same [ ]
  is_received (Ok (Some received)) (Ok None) same = elim same [ ]
  is_received (Ok (Some received)) (Err named) same = elim same [ ]
  is_received (Err error) (Ok named) same = elim same [ ]

module _ {U E : Type 0} where
  -- what was made, or given back, is known by itself
  pub is_spent : (answer returned : Result U (Refused ℕ E)) → IsSpent (λ n. n) answer returned → returned ≡ answer
  is_spent (Ok answer) (Ok returned) same = ap Ok same
  is_spent (Err refused) (Err kept) same =
      ap Err (λ i. record { message = same.0 i; error = same.1 i })
  is_spent (Ok answer) (Err kept) same = elim same [ ]
  is_spent (Err refused) (Ok returned) same = elim same [ ]

module _ {E : Type 0} where
  pub is_tried : (made named : Result ℕ (Refused ℕ E)) → IsTried (λ n. n) (λ n. n) made named → named ≡ made
  is_tried (Ok made) (Ok named) same = ap Ok same
  is_tried (Err refused) (Err kept) same =
      ap Err (λ i. record { message = same.0 i; error = same.1 i })
  is_tried (Ok made) (Err named) same = elim same [ ]
  is_tried (Err refused) (Ok named) same = elim same [ ]

module _ {S U E : Type 0} (numbers : S → ℕ) (Call : Result U E → S → S → Type 0) where
  -- a call that is told of is one
  pub answered : (answer : Result U E) (returned : Result U (CallError E)) (old new : S) → IsAnswer answer returned → Call answer old new
      → Answered numbers Call returned old new
  answered (Ok answer) (Ok returned) old new is call = subst (λ r. Call (Ok r) old new) (sym is) call
  answered (Err error) (Err (Port returned)) old new is call = subst (λ r. Call (Err r) old new) (sym is) call
  answered (Ok answer) (Err returned) old new is call = elim is [ ]
  answered (Err error) (Ok returned) old new is call = elim is [ ]
  answered (Err error) (Err NumbersExhausted) old new is call = elim is [ ]

  -- and so is one that found no number left
  pub exhausted : (returned : Result U (CallError E)) (old new : S) → (returned ≡ Err NumbersExhausted) × (numbers old ≡ 0) × (new ≡ old)
      → Answered numbers Call returned old new
  exhausted returned old new none = subst (λ r. Answered numbers Call r old new) (sym none.0) (none.1, none.2)

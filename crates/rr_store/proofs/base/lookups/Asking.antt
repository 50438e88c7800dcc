-- The port and the sender that a call works on, and answers about a value that is there.
use Rattle.std.proofs.Common.{◌≡◌, ◌<◌, ◌≤◌, ◌+◌, ◌*◌, ◌^◌, ℕ, Bool, true, false, cond, List, Option, None, Some, Result, Ok, Err, length, get_or, map, refl, sym, ap, ◌∙◌, mul-add, ⊎_elim, arith}
use Rattle.std.specs.Prelude.{◌||◌}
use Rattle.std.proofs.Math.Nat.{mul_comm, le-mul_of_pos_right}
use Rattle.std.proofs.lemmas.List.{length-map}
use Rattle.std.proofs.lemmas.Option.{slice_get-get_or, get_or_from_slice_get}
use Rattle.std.proofs.lemmas.Bool.{leb-false, cases_lt}
use Rattle.rr_protocol.specs.declared.error.HubCreateError.{HubCreateError}
use Rattle.rr_protocol.specs.declared.error.LoanError.{LoanError}
use Rattle.rr_protocol.specs.declared.limits.Limits.{Limits}
use Rattle.rr_protocol.specs.Limits.{worst_case_requests, worst_case_responses, has_zero_limit, is_too_large, hub_refusal}
use Rattle.rr_protocol.specs.Loans.{IsLoanRefusal}
use Rattle.rr_protocol.specs.Ports.{Port}
use Rattle.rr_store.specs.declared.port.OwnedSender.{OwnedSender}
use Rattle.rr_store.specs.Ports.{sender_part}
use Rattle.rr_store.specs.Views.{sender_of, no_sender}
use Rattle.rr_protocol.proofs.Growth.{large_borrows}
use Rattle.rr_store.proofs.base.lists.Adding.{some_clients, makes_channels}
use Rattle.rr_store.proofs.base.views.Counts.{listed}

-- a refusal that is due
pub due_refusal : {K : Type 0} (o : Option LoanError) (port : Port K) (len : ℕ) (error : LoanError) → o ≡ Some error
    → IsLoanRefusal o port len error
due_refusal o port len error e = rw e refl

-- or want of memory, where none is
pub no_memory : {K : Type 0} (o : Option LoanError) (port : Port K) (len : ℕ) → o ≡ None → port.initial_max_slice_len < len
    → IsLoanRefusal o port len LoanError.OutOfMemory
no_memory o port len e h = rw e (refl, h)

-- the sender at an index
pub sender_is : {B N H T : Type 0} (senders : List (OwnedSender B N H T)) (l : ℕ) (x : OwnedSender B N H T) → l < length senders
    → x ≡ get_or senders l x → sender_of l (map sender_part senders) ≡ sender_part x
sender_is senders l x h e =
    get_or_from_slice_get (map sender_part senders) l (sender_part x) no_sender
    (listed sender_part senders l x (slice_get-get_or senders l x h ∙ ap Some (sym e)))

pub senders_many : {B N H T : Type 0} (senders : List (OwnedSender B N H T)) (l : ℕ) → l < length (map sender_part senders)
    → l < length senders
senders_many senders l h = omega (arith, h, length-map senders sender_part)

-- a slot has a place among those of its row
pub in_row : (servers slots slot row : ℕ) → slot < slots → row ≡ (servers + 1) * slots → slot < row
in_row servers slots slot row h e = omega (arith, h, e, mul-add slots servers 1, mul_comm (servers + 1) slots)

-- where limits make a hub, the worst-case number of requests can be counted
pub countable : (l : Limits) → hub_refusal l ≡ None → worst_case_requests l < 2 ^ 64
countable l h = go (has_zero_limit l) (is_too_large (worst_case_requests l)) (is_too_large (worst_case_responses l 1)) refl h
  where
    go : (z a b : Bool) → is_too_large (worst_case_requests l) ≡ a
        → cond z (Some HubCreateError.ZeroLimit) (cond (a || b) (Some HubCreateError.LimitsTooLarge) None) ≡ None
        → worst_case_requests l < 2 ^ 64
    go true a b e f = absurd (let n : Some HubCreateError.ZeroLimit ≡ None = f in cc)
    go false true b e f = absurd (let n : Some HubCreateError.LimitsTooLarge ≡ None = f in cc)
    go false false b e f = leb-false (2 ^ 64) (worst_case_requests l) e

-- and so can the loans of a client
pub loans_fit : (l : Limits) → hub_refusal l ≡ None → (n : ℕ) → n < l.max_loaned_requests → n + 1 < 2 ^ 64
loans_fit l h n less = omega (arith, less, countable l h)

-- a pool that is not full has fewer used slots than its size
pub not_full : {used slots size : ℕ} → slots ≡ size → used ≤ slots → (used ≡ slots → ⊥) → used < size
not_full {used} {slots} {size} e le n = ⊎_elim (λ h. omega (arith, h, e)) (λ h. absurd (n (omega (arith, le, h)))) (cases_lt used slots)

-- what is fine is no error
pub no_error : {T E : Type 0} {t : T} {e : E} → Ok t ≡ Err e → ⊥
no_error {T} {E} {t} {e} h = let f : ◌≡◌ {A = Result T E} (Ok t) (Err e) = h in cc

-- in such a hub the worst-case number of responses can be counted
pub responses_countable : (l : Limits) → hub_refusal l ≡ None → worst_case_responses l 1 < 2 ^ 64
responses_countable l h = go (has_zero_limit l) (is_too_large (worst_case_requests l)) (is_too_large (worst_case_responses l 1)) refl h
  where
    go : (z a b : Bool) → is_too_large (worst_case_responses l 1) ≡ b
        → cond z (Some HubCreateError.ZeroLimit) (cond (a || b) (Some HubCreateError.LimitsTooLarge) None) ≡ None
        → worst_case_responses l 1 < 2 ^ 64
    go true a b e f = absurd (let n : Some HubCreateError.ZeroLimit ≡ None = f in cc)
    go false true b e f = absurd (let n : Some HubCreateError.LimitsTooLarge ≡ None = f in cc)
    go false false true e f = absurd (let n : Some HubCreateError.LimitsTooLarge ≡ None = f in cc)
    go false false false e f = leb-false (2 ^ 64) (worst_case_responses l 1) e

-- and so can the responses that a client may have from one server on one channel
pub borrows_fit : (l : Limits) → hub_refusal l ≡ None → l.max_borrowed_responses_per_pending_response < 2 ^ 64
borrows_fit l h =
    let enough = large_borrows l 1 l.max_borrowed_responses_per_pending_response (some_clients l h)
    (omega (
      arith,
      le-mul_of_pos_right l.max_borrowed_responses_per_pending_response (makes_channels l h),
      mul_comm l.max_borrowed_responses_per_pending_response (worst_case_requests l),
    )) in
    omega (arith, enough, responses_countable l h)

-- and so can what a server may have from a client
pub requests_fit : (l : Limits) → hub_refusal l ≡ None → l.max_active_requests_per_client < 2 ^ 64
requests_fit l h = omega (arith, countable l h)

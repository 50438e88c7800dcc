-- What a call of a wait leaves.
use Rattle.std.proofs.Common.{◌≡◌, ℕ, List, [], ◌∷◌, ◌++◌, Option, Some, None, Result, Ok, Err, ◌∙◌, ap, append_assoc, subst, sym}
use mathlib.Core.List.{IsPrefix}
use Rattle.rr_protocol.specs.Receives.{ReceivesResponse}
use Rattle.rr_protocol.specs.State.{State}
use Rattle.rr_ports.specs.declared.try_send.Refused.{Refused}
use Rattle.rr_shared_ports.specs.declared.error.WaitError.{WaitError}
use Rattle.rr_shared_ports.specs.declared.error.WaitError.TheVariants as wait
use Rattle.rr_shared_ports.specs.Turns.{EndsInCall, MakesCall, Seated, state_after}
use Rattle.rr_shared_ports.specs.Waits.{EndsLater, IsOver, ReceivesOrEnds, Refuses, SendRefuses}
use Rattle.rr_shared_ports.proofs.Turns.{ends_in_call, goes_on}

module _ {S : Type 0} (start : S) where
  -- what begins what a seat has seen begins what it has seen after a call
  pub still_begins : (Call : S → S → Type 0) (first : List (ℕ × S)) (old new : Seated S) → MakesCall start Call old new → IsPrefix first old.1
      → IsPrefix first new.1
  still_begins Call first old new made = goes_on first old new made.0 made.1 made.2

  -- a call is the last one, as what its result makes of it
  pub ends_as_other : {R : Type 0} (Call : R → S → S → Type 0) (Other : S → S → Type 0) (result returned : R) (old new : Seated S) → result ≡ returned
      → ((before after : S) → Call returned before after → Other before after) → MakesCall start (Call result) old new → EndsInCall start Other new
  ends_as_other Call Other result returned old new is other made =
      let before = state_after start (old.1 ++ made.0) in
      ends_in_call start Other old new made.0 made.1 made.2 (other before made.1 (subst (λ r. Call r before made.1) is made.4))

  -- a call is the last one, with the result that it returned
  pub ends_as : {R : Type 0} (Call : R → S → S → Type 0) (result returned : R) (old new : Seated S) → result ≡ returned → MakesCall start (Call result) old new
      → EndsInCall start (Call returned) new
  ends_as Call result returned old new is made = subst (λ r. EndsInCall start (Call r) new) is (ends_in_call start (Call result) old new made.0 made.1 made.2 made.4)

  -- a call that was the last one is an earlier one after the next
  pub ends_later : (Look Call : S → S → Type 0) (old new : Seated S) → EndsInCall start Look old → MakesCall start Call old new → EndsLater start Look new
  ends_later Look Call old new looked made =
      let last = (old.0, made.1) ∷ [] in
      let joined = ap (λ calls. (calls ++ made.0) ++ last) looked.2 ∙ ap (λ calls. calls ++ last) (append_assoc looked.0 ((old.0, looked.1) ∷ []) made.0) in
      let by = ap (λ caller. (looked.0 ++ (caller, looked.1) ∷ made.0) ++ (caller, made.1) ∷ []) (sym (ap (λ seat. seat.0) made.2)) in
      (looked.0, looked.1, made.0, made.1, ap (λ seat. seat.1) made.2 ∙ joined ∙ by, looked.3)

  module _ {U E : Type 0} where
    -- a wait that was over ends in a call that received nothing
    pub refuses_over : (Call : Result U E → S → S → Type 0) (nothing : U) (error : WaitError E) (seat : Seated S) → IsOver error
        → EndsInCall start (Call (Ok nothing)) seat → Refuses start Call nothing error seat
    refuses_over Call nothing (wait.Call error) seat over ends = elim over [ ]
    refuses_over Call nothing wait.Closed seat over ends = ends
    refuses_over Call nothing wait.TimedOut seat over ends = ends

    -- and one for room in a send that was refused
    pub send_refuses_over : (Call : Result U (Refused ℕ E) → S → S → Type 0) (full : E) (n : ℕ) (error : WaitError E) (seat : Seated S) → IsOver error
        → EndsInCall start (Call (Err (record { message = n; error = full }))) seat → SendRefuses start Call full n error seat
    send_refuses_over Call full n (wait.Call error) seat over ends = elim over [ ]
    send_refuses_over Call full n wait.Closed seat over ends = ends
    send_refuses_over Call full n wait.TimedOut seat over ends = ends

-- a receive that may find the request ended received this
pub received_or_none : {Q QH P PH K : Type 0} (old new : State Q QH P PH K) (n : ℕ) (received : Option ℕ) → ReceivesOrEnds old n (Ok received) new
    → ReceivesResponse old n (Ok received) new
received_or_none old new n (Some response) receives = receives
received_or_none old new n None ends = ends.0

-- the value of an answer, or another one
abbrev value_or : {U E : Type 0} → U → Result U E → U
value_or other (Ok value) = value
value_or other (Err error) = other

-- an answer has one value
pub one_value : {U E : Type 0} (value other : U) (answer : Result U E) → answer ≡ Ok value → answer ≡ Ok other → value ≡ other
one_value value other answer is also = ap (value_or other) (sym is ∙ also)

-- The results of waits.
use Rattle.std.specs.Prelude.{◌≡◌, ℕ, List, [], ◌∷◌, ◌++◌, Bool, false, IsSomeAnd, Option, Some, None, Result, Ok, Err, length, nat_lt}
use Rattle.rr_protocol.specs.declared.error.ReceiveError.{ReceiveError}
use Rattle.rr_protocol.specs.Receives.{ReceivesResponse}
use Rattle.rr_protocol.specs.State.{State, pending_at}
use Rattle.rr_ports.specs.declared.try_send.Refused.{Refused}
use Rattle.rr_shared_ports.specs.declared.error.WaitError.{WaitError}
use Rattle.rr_shared_ports.specs.declared.error.WaitError.TheVariants as wait
use Rattle.rr_shared_ports.specs.Turns.{EndsInCall, Seated, state_after}

-- a wait was over before it had a result
abbrev pub IsOver : {E : Type 0} → WaitError E → Type 0
IsOver (wait.Call error) = ⊥
IsOver wait.Closed = Unit
IsOver wait.TimedOut = Unit

-- the last call that a seat has seen is its own, and so is an earlier one, which leads from a state to the next
abbrev pub EndsLater : {S : Type 0} → S → (S → S → Type 0) → Seated S → Type 0
EndsLater {S} start Call seat =
    (earlier : List (ℕ × S)) × (between : S) × (others : List (ℕ × S)) × (after : S)
    × (seat.1 ≡ (earlier ++ (seat.0, between) ∷ others) ++ (seat.0, after) ∷ [])
    × Call (state_after start earlier) between

module _ {Q QH P PH K : Type 0} where
  -- a connected server may answer a request yet, or none may any more
  abbrev pub MayBeAnswered : State Q QH P PH K → ℕ → Bool → Type 0
  MayBeAnswered s n may = IsSomeAnd (pending_at s n) (λ pending. may ≡ nat_lt 0 (length pending.servers))

  -- no response is queued, and no connected server may answer any more
  abbrev pub EndsUnanswered : ℕ → State Q QH P PH K → State Q QH P PH K → Type 0
  EndsUnanswered n old new = ReceivesResponse old n (Ok None) new × MayBeAnswered new n false

  -- a response is received; or the request has ended unanswered; or no response is queued yet
  abbrev pub ReceivesOrEnds : State Q QH P PH K → ℕ → Result (Option ℕ) (Option ReceiveError) → State Q QH P PH K
      → Type 0
  ReceivesOrEnds old n (Ok (Some response)) new = ReceivesResponse old n (Ok (Some response)) new
  ReceivesOrEnds old n (Ok None) new = EndsUnanswered n old new
  ReceivesOrEnds old n (Err None) new = ReceivesResponse old n (Ok None) new
  ReceivesOrEnds old n (Err (Some error)) new = ReceivesResponse old n (Err error) new

module _ {S U E : Type 0} (start : S) (Call : Result U E → S → S → Type 0) (nothing : U) where
  -- the last call is the one that was refused; or it was not refused, and nothing came
  abbrev pub Refuses : WaitError E → Seated S → Type 0
  Refuses (wait.Call error) seat = EndsInCall start (Call (Err error)) seat
  Refuses wait.Closed seat = EndsInCall start (Call (Ok nothing)) seat
  Refuses wait.TimedOut seat = EndsInCall start (Call (Ok nothing)) seat

  -- the last call is the one that received the wait's result
  abbrev pub Waits : {V : Type 0} → (V → U) → Result V (WaitError E) → Seated S → Type 0
  Waits received (Ok value) seat = EndsInCall start (Call (Ok (received value))) seat
  Waits received (Err error) seat = Refuses error seat

module _ {S U E : Type 0} (start : S) (Call : Result U (Refused ℕ E) → S → S → Type 0) (full : E) where
  -- the last call is the one that was refused; where the wait was over, since there was no room
  abbrev pub SendRefuses : ℕ → WaitError E → Seated S → Type 0
  SendRefuses n (wait.Call error) seat = EndsInCall start (Call (Err (record { message = n; error = error }))) seat
  SendRefuses n wait.Closed seat = EndsInCall start (Call (Err (record { message = n; error = full }))) seat
  SendRefuses n wait.TimedOut seat = EndsInCall start (Call (Err (record { message = n; error = full }))) seat

  -- the last call is the one that sent the message, or gave it back
  abbrev pub WaitsToSend : Result U (Refused ℕ (WaitError E)) → Seated S → Type 0
  WaitsToSend (Ok sent) seat = EndsInCall start (Call (Ok sent)) seat
  WaitsToSend (Err refused) seat = SendRefuses refused.message refused.error seat

-- What is noted is a call, and leads to the hub's state.
use Rattle.std.proofs.Common.{◌≡◌, ℕ, List, [], ◌∷◌, ◌++◌, ap, ◌∙◌, append_assoc, append-nil, refl, subst, sym}
use mathlib.Core.List.{IsPrefix}
use Rattle.rr_shared_ports.specs.Leading.{IsHistory}
use Rattle.rr_shared_ports.specs.Turns.{EndsInCall, EndsIn, IsNoted, MakesCall, Seated, state_after}

-- the state after calls is where the last one led
pub ends_in : {S : Type 0} (calls : List (ℕ × S)) (caller : ℕ) (after : S) → EndsIn after (calls ++ (caller, after) ∷ [])
ends_in [] caller after start = refl
ends_in (call ∷ calls) caller after start = ends_in calls caller after call.1

-- where the calls up to one lead to a state, it leads from there
pub makes_call : {S : Type 0} (start : S) (Call : S → S → Type 0) (calls : List (ℕ × S)) (before after : S) (old new : Seated S)
    → IsNoted calls after old new → state_after start calls ≡ before → Call before after → MakesCall start Call old new
makes_call start Call calls before after old new noted led call =
    let others = noted.0 in
    let is = noted.1 in (
      others,
      after,
      subst (λ seen. new ≡ (old.0, seen ++ (old.0, after) ∷ [])) is noted.2,
      noted.3,
      subst (λ s. Call s after) (sym led ∙ ap (state_after start) is) call,
    )

-- what a seat had seen begins what it has seen after a call
pub goes_on : {S : Type 0} (first : List (ℕ × S)) (old new : Seated S) (others : List (ℕ × S)) (after : S)
    → new ≡ (old.0, (old.1 ++ others) ++ (old.0, after) ∷ []) → IsPrefix first old.1 → IsPrefix first new.1
goes_on first old new others after is begins =
    let last = (old.0, after) ∷ [] in (
      (begins.0 ++ others) ++ last,
      sym (append_assoc first (begins.0 ++ others) last) ∙ ap (λ calls. calls ++ last) (sym (append_assoc first begins.0 others) ∙ ap (λ calls. calls ++ others) begins.1)
          ∙ sym (ap (λ seat. seat.1) is),
    )

-- the call is the last one then
pub ends_in_call : {S : Type 0} (start : S) (Call : S → S → Type 0) (old new : Seated S) (others : List (ℕ × S)) (after : S)
    → new ≡ (old.0, (old.1 ++ others) ++ (old.0, after) ∷ []) → Call (state_after start (old.1 ++ others)) after → EndsInCall start Call new
ends_in_call start Call old new others after is call = (
  old.1 ++ others,
  after,
  ap (λ seat. seat.1) is ∙ ap (λ caller. (old.1 ++ others) ++ (caller, after) ∷ []) (sym (ap (λ seat. seat.0) is)),
  call,
)

-- a call is made by the seat whose it is
pub caller_stays : {S : Type 0} (start : S) (Call : S → S → Type 0) (old new : Seated S) → MakesCall start Call old new → new.0 ≡ old.0
caller_stays start Call old new made = ap (λ seat. seat.0) made.2

-- and what that had seen begins what it has seen then
pub seen_begins : {S : Type 0} (start : S) (Call : S → S → Type 0) (old new : Seated S) → MakesCall start Call old new → IsPrefix old.1 new.1
seen_begins start Call old new made = goes_on old.1 old new made.0 made.1 made.2 ([], append-nil old.1)

module _ {S : Type 0} (steps : List ℕ → S → S → Type 0) where
  -- a history goes on by a step
  pub history_grows : (start : S) (calls : List (ℕ × S)) (caller : ℕ) (after : S) → IsHistory steps start calls
      → (handed : List ℕ) × steps handed (state_after start calls) after → IsHistory steps start (calls ++ (caller, after) ∷ [])
  history_grows start [] caller after history step = (step, tt)
  history_grows start (call ∷ calls) caller after history step = (history.0, history_grows call.1 calls caller after history.1 step)

  -- what is a step from a state is one from where calls lead to it
  pub steps_from : (start : S) (calls : List (ℕ × S)) (before after : S) (handed : List ℕ) → state_after start calls ≡ before → steps handed before after
      → (taken : List ℕ) × steps taken (state_after start calls) after
  steps_from start calls before after handed led step = (handed, subst (λ s. steps handed s after) (sym led) step)

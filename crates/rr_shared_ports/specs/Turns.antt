-- The history that a seat has seen of a hub of ports, and the effect of a call on it.
use Rattle.std.specs.Prelude.{◌≡◌, ℕ, List, [], ◌∷◌, ◌++◌, Some, None, Result, Ok, Err}
use base.Stored.{Coded, coded×, coded_ℕ, coded_via}
use Rattle.rr_protocol.specs.declared.limits.Limits.{Limits}
use Rattle.rr_protocol.specs.declared.error.HubCreateError.{HubCreateError}
use Rattle.rr_protocol.specs.Codes.{limits_code}
use Rattle.rr_protocol.specs.Limits.{hub_refusal}
use Rattle.rr_log.specs.Entries.{entries_of}
use Rattle.rr_shared_ports.specs.declared.error.CallError.{CallError}
use Rattle.rr_shared_ports.specs.declared.error.CallError.TheVariants.{Port, NumbersExhausted}

-- the keeper of a hub's claims, the log of its calls, its limits and its node id
pub record Name : Type 0 where
  pub keeper_id : ℕ
  pub log_id : ℕ
  pub limits : Limits
  pub node_id : ℕ

abbrev pub name : ℕ → ℕ → Limits → ℕ → Name
name keeper_id log_id limits node_id =
    record { keeper_id = keeper_id; log_id = log_id; limits = limits; node_id = node_id }

abbrev pub name_code : Coded Name
name_code =
    coded_via (coded× coded_ℕ (coded× coded_ℕ (coded× limits_code coded_ℕ)))
    (λ n. (n.keeper_id, (n.log_id, (n.limits, n.node_id))))
    (λ x y e i. record { keeper_id = (e i).0; log_id = (e i).1.0; limits = (e i).1.1.0; node_id = (e i).1.1.1 })

-- a hub with these limits and this node id is opened, unless the limits are refused
abbrev pub OpensHub : Limits → ℕ → Result Name HubCreateError → Type 0
OpensHub limits node_id (Ok opened) =
    (hub_refusal limits ≡ None) × (opened.limits ≡ limits) × (opened.node_id ≡ node_id)
OpensHub limits node_id (Err error) = hub_refusal limits ≡ Some error

-- a seat as contracts see it: its identity, and the states after the calls that it has seen, each with its caller
abbrev pub Seated : Type 0 → Type 0
Seated S = ℕ × List (ℕ × S)

-- the state after these calls, from this one on
abbrev pub state_after : {S : Type 0} → S → List (ℕ × S) → S
state_after start [] = start
state_after start (call ∷ calls) = state_after call.1 calls

-- a seat's history is extended by calls of others, and then by exactly this call, which is its own, and leads from a
-- state to the next
abbrev pub MakesCall : {S : Type 0} → S → (S → S → Type 0) → Seated S → Seated S → Type 0
MakesCall {S} start Call old new =
    (others : List (ℕ × S)) × (after : S)
    × (new ≡ (old.0, (old.1 ++ others) ++ (old.0, after) ∷ []))
    × (entries_of old.0 others ≡ [])
    × Call (state_after start (old.1 ++ others)) after

-- the last call that a seat has seen is its own, and leads from a state to the next
abbrev pub EndsInCall : {S : Type 0} → S → (S → S → Type 0) → Seated S → Type 0
EndsInCall {S} start Call seat =
    (earlier : List (ℕ × S)) × (after : S)
    × (seat.1 ≡ earlier ++ (seat.0, after) ∷ [])
    × Call (state_after start earlier) after

-- the last of these calls led to a state
abbrev pub EndsIn : {S : Type 0} → S → List (ℕ × S) → Type 0
EndsIn {S} after calls = (start : S) → state_after start calls ≡ after

-- after these calls, a seat adds one that leads to a state
abbrev pub IsNoted : {S : Type 0} → List (ℕ × S) → S → Seated S → Seated S → Type 0
IsNoted {S} calls after old new =
    (others : List (ℕ × S)) × (calls ≡ old.1 ++ others)
    × (new ≡ (old.0, calls ++ (old.0, after) ∷ []))
    × (entries_of old.0 others ≡ [])

module _ {S U E : Type 0} (numbers : S → ℕ) where
  -- a call of a port that may find no number left, and changes nothing then
  abbrev pub Answered : (Result U E → S → S → Type 0) → Result U (CallError E) → S → S → Type 0
  Answered Call (Ok value) old new = Call (Ok value) old new
  Answered Call (Err (Port error)) old new = Call (Err error) old new
  Answered Call (Err NumbersExhausted) old new = (numbers old ≡ 0) × (new ≡ old)

-- The states that calls of ports lead to.
use Rattle.std.specs.Prelude.{◌≡◌, ◌⊎◌, ℕ, IsTrue, List, [], ◌∷◌, ◌++◌}
use Rattle.rr_protocol.specs.declared.settings.BackpressureAction.{BackpressureAction}
use Rattle.rr_protocol.specs.State.{State}
use Rattle.rr_protocol.specs.AnswerRule.{is_active, is_loan, is_sent, is_sent_copy, occur_in_order}
use Rattle.rr_protocol.specs.PortRun.{PortEvent, PortRun}
use Rattle.rr_ports.specs.Facts.{Keeps}
use Rattle.std.proofs.Common.{refl}

module _ {Q QH P PH K : Type 0} (action : K → ℕ → ℕ → BackpressureAction) (IsDefaultRequestHeader : QH → Type 0)
    (IsDefaultResponseHeader : PH → Type 0) where
  -- some calls of ports, one after another, lead from one state to another
  unfoldable pub LeadsTo : State Q QH P PH K → State Q QH P PH K → Type 0
  LeadsTo old new =
      (events : List (PortEvent K)) × PortRun action IsDefaultRequestHeader IsDefaultResponseHeader old events new

  -- they do, and the facts about numbers stay true, except for these
  abbrev pub Steps : List ℕ → State Q QH P PH K → State Q QH P PH K → Type 0
  Steps handed old new = Keeps handed old new × LeadsTo old new

  -- so it is where no call is made
  pub rest : (state : State Q QH P PH K) → Steps [] state state
  unfolding Keeps LeadsTo
  rest state = (λ n fact other has. has, ([], refl))

  -- a history that is read as calls: each state is where these lead from the one before
  abbrev pub Reads : State Q QH P PH K → List (ℕ × State Q QH P PH K) → List (List (PortEvent K)) → Type 0
  Reads start [] [] = Unit
  Reads start (call ∷ calls) (events ∷ readings) =
      PortRun action IsDefaultRequestHeader IsDefaultResponseHeader start events call.1 × Reads call.1 calls readings
  Reads start calls readings = ⊥

-- all calls of a reading
abbrev pub calls_in : {X : Type 0} → List (List X) → List X
calls_in [] = []
calls_in (calls ∷ readings) = calls ++ calls_in readings

-- some calls loaned the response k from an active request of the request p, and sent it after that
abbrev pub Answer : {K : Type 0} → List (PortEvent K) → ℕ → ℕ → Type 0
Answer calls p k =
    (a : ℕ) × (IsTrue (occur_in_order (is_active a p ∷ is_loan a k ∷ is_sent k ∷ []) calls)
    ⊎ IsTrue (occur_in_order (is_active a p ∷ is_sent_copy a k ∷ []) calls))

module _ {Q QH P PH K : Type 0} (action : K → ℕ → ℕ → BackpressureAction) (IsDefaultRequestHeader : QH → Type 0)
    (IsDefaultResponseHeader : PH → Type 0) where
  -- the calls before the last one did
  abbrev pub WasAnswered : State Q QH P PH K → List (ℕ × State Q QH P PH K) → ℕ → ℕ → Type 0
  WasAnswered start calls p k =
      (earlier : List (ℕ × State Q QH P PH K)) × (last : ℕ × State Q QH P PH K) × (calls ≡ earlier ++ last ∷ [])
      × ((readings : List (List (PortEvent K)))
      × Reads action IsDefaultRequestHeader IsDefaultResponseHeader start earlier readings
      × Answer (calls_in readings) p k)

-- each state is reached by a step from the one before, whatever facts the step invalidates
abbrev pub IsHistory : {S : Type 0} → (List ℕ → S → S → Type 0) → S → List (ℕ × S) → Type 0
IsHistory steps start [] = Unit
IsHistory steps start (call ∷ calls) = ((handed : List ℕ) × steps handed start call.1) × IsHistory steps call.1 calls

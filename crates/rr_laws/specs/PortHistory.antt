-- Facts of every history of ports: their calls with the answers, from an empty hub on.
use Rattle.std.specs.Prelude.{◌≡◌, ℕ, List, None}
use Rattle.rr_protocol.specs.declared.limits.Limits.{Limits}
use Rattle.rr_protocol.specs.declared.settings.BackpressureAction.{BackpressureAction}
use Rattle.rr_protocol.specs.Limits.{hub_refusal}
use Rattle.rr_protocol.specs.State.{State, empty_hub}
use Rattle.rr_protocol.specs.PortRun.{PortEvent, PortRun}

module _ (Q P : Type 0) {QH PH K : Type 0} (IsDefaultRequestHeader : QH → Type 0)
    (IsDefaultResponseHeader : PH → Type 0) where
  -- this holds of every run of ports, with requests of Q and responses of P, from an empty hub whose limits make a
  -- hub
  abbrev pub HoldsOfPortHistories : (Limits → List (PortEvent K) → Type 0) → Type 0
  HoldsOfPortHistories R =
      (limits : Limits) (node_id : ℕ) → hub_refusal limits ≡ None
      → (action : K → ℕ → ℕ → BackpressureAction) (history : List (PortEvent K)) (s : State Q QH P PH K)
      → PortRun action IsDefaultRequestHeader IsDefaultResponseHeader (empty_hub limits node_id) history s
      → R limits history

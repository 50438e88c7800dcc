-- A hub of numbers, whose ports have no handlers.
use Rattle.std.specs.Prelude.{◌≡◌, ℕ}
use Rattle.rr_protocol.specs.declared.settings.BackpressureAction.{BackpressureAction}

-- the action of a handler that leaves each full queue to the port's strategy
abbrev pub follow_strategy : {K : Type 0} → K → ℕ → ℕ → BackpressureAction
follow_strategy handler port receiver = BackpressureAction.FollowBackpressureStrategy

-- the default number
abbrev pub IsZero : ℕ → Type 0
IsZero n = n ≡ 0

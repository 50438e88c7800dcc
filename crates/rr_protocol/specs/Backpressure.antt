-- The action of a send at a full queue that may not overflow.
use Rattle.std.specs.Prelude.{ℕ, Bool, true, false}
use Rattle.std.specs.Option.{option_map_or}
use Rattle.rr_protocol.specs.declared.settings.BackpressureStrategy.{BackpressureStrategy}
use Rattle.rr_protocol.specs.declared.settings.BackpressureAction.{BackpressureAction}
use Rattle.rr_protocol.specs.Ports.{Port}

-- whether a strategy skips a full queue
abbrev pub strategy_discards : BackpressureStrategy → Bool
strategy_discards BackpressureStrategy.DiscardData = true
strategy_discards BackpressureStrategy.RetryUntilDelivered = false

-- whether an action skips it, if the port has this strategy
abbrev pub action_discards : BackpressureStrategy → BackpressureAction → Bool
action_discards strategy BackpressureAction.DiscardData = true
action_discards strategy BackpressureAction.FollowBackpressureStrategy = strategy_discards strategy
action_discards strategy BackpressureAction.Retry = false
action_discards strategy BackpressureAction.DiscardDataAndFail = false

-- whether a port skips the full queue to a receiver: its handler decides, if it has one, and otherwise its strategy
abbrev pub discards : {K : Type 0} → (K → ℕ → ℕ → BackpressureAction) → Port K → ℕ → Bool
discards action port receiver =
    action_discards port.strategy (option_map_or (λ handler. action handler port.id receiver) port.handler
    BackpressureAction.FollowBackpressureStrategy)

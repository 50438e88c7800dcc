-- The hint in the stage of a pending response, and the stage once its hint is set.
use Rattle.std.specs.Prelude.{ℕ, Bool, true, false}
use Rattle.rr_store.specs.declared.handle_entry.Stage.{Stage}
use Rattle.rr_store.specs.declared.handle_entry.Stage.TheVariants as stage

-- how many queues took the request of a pending response
abbrev pub stage_connections : Stage → ℕ
stage_connections (stage.PendingResponse hint connections) = connections
stage_connections _ = 0

-- whether the hint of a pending response is set
abbrev pub stage_hint : Stage → Bool
stage_hint (stage.PendingResponse hint connections) = hint
stage_hint _ = false

-- the stage once the hint of a pending response is set; other stages stay
abbrev pub hinted : Stage → Stage
hinted (stage.PendingResponse hint connections) = stage.PendingResponse true connections
hinted g = g

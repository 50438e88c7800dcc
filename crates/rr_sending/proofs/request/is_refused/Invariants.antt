use Rattle.std.proofs.Common.{◌≡◌, ℕ, ◌<◌, false, Some, slice_get}
use Rattle.rr_store.specs.declared.port.ServerPort.{ServerPort}
use Rattle.rr_store.specs.Ports.{connected_of}
use Rattle.rr_store.specs.Sending.{is_refused_at}
use Rattle.rr_sending.proofs.request.is_refused.Given as goal

-- no queue so far is refused
abbrev pub invariant-loop-server : goal.invariant-loop-server
invariant-loop-server g l =
    (i : ℕ) (s : ServerPort _) → i < l.server-index → slice_get l.servers i ≡ Some s
    → is_refused_at g.K.BackpressureFn.action (connected_of l.port).port l.overflow l.messages s ≡ false

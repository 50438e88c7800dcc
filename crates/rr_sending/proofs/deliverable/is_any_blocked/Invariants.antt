use Rattle.std.proofs.Common.{◌≡◌, ℕ, ◌<◌, false, Some, slice_get}
use Rattle.rr_store.specs.declared.port.ServerPort.{ServerPort}
use Rattle.rr_store.specs.Sending.{is_blocked_at}
use Rattle.rr_sending.proofs.deliverable.is_any_blocked.Given as goal

-- no queue so far is blocked
abbrev pub invariant-loop-server : goal.invariant-loop-server
invariant-loop-server g l =
    (i : ℕ) (s : ServerPort _) → i < l.server-index → slice_get l.servers i ≡ Some s
    → is_blocked_at l.overflow l.messages s.port.receiver ≡ false

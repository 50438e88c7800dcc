use Rattle.std.proofs.Common.{◌≡◌, ℕ, ◌+◌, ◌<◌, false, Some, slice_get, slice_index_or}
use Rattle.std.specs.Prelude.{◌==◌}
use Rattle.rr_store.specs.Views.{no_server}
use Rattle.rr_store.specs.declared.port.ServerPort.{ServerPort}
use Rattle.rr_hub.proofs.connected.is_any_marked.Given as goal

-- none of the servers so far has a mark
abbrev pub invariant-loop-server : goal.invariant-loop-server
invariant-loop-server g l = (i : ℕ) (s : ServerPort _) → i < l.server-index → slice_get l.servers i ≡ Some s
    → (slice_index_or l.marks (l.start + s.port.receiver) no_server == s.port.id) ≡ false

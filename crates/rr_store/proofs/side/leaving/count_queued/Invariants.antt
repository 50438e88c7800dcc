use Rattle.std.proofs.Common.{◌≡◌, length, map, take}
use Rattle.rr_store.specs.Leaving.{queued_left}
use Rattle.rr_store.specs.Ports.{sender_part}
use Rattle.rr_store.proofs.side.leaving.count_queued.Given as goal

-- those so far are counted
abbrev pub invariant-loop-port : goal.invariant-loop-port
invariant-loop-port g l = l.count ≡ length (queued_left (map sender_part l.senders) (take l.port-index l.left) l.receiver)

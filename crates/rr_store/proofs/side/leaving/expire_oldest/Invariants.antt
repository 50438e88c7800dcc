use Rattle.std.proofs.Common.{map}
use Rattle.rr_store.specs.Ports.{sender_part}
use Rattle.rr_store.proofs.leaving.Outdated.{IsExpiring}
use Rattle.rr_store.proofs.side.leaving.expire_oldest.Given as goal

-- the ports so far are expired
abbrev pub invariant-loop-port : goal.invariant-loop-port
invariant-loop-port g l = IsExpiring (map sender_part l.fn.senders.items) l.left l.receiver l.excess l.port-index l.remaining
    (map sender_part l.senders.items)

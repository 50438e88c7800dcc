use Rattle.std.proofs.Common.{map}
use Rattle.rr_store.specs.Ports.{sender_part}
use Rattle.rr_store.proofs.leaving.OutdatedAt.{IsExpiredBelow}
use Rattle.rr_store.proofs.side.Side.expire.Given as goal

-- for the ports so far they are expired
abbrev pub invariant-loop-port : goal.invariant-loop-port
invariant-loop-port g l = IsExpiredBelow l.left l.leaving l.room g.R.ConnectedPort.receiver l.receivers
    (map sender_part l.initial.senders.items) l.port-index (map sender_part l.senders.items)

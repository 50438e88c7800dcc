use Rattle.std.proofs.Common.{◌≡◌, false, map, take}
use Rattle.rr_store.specs.Leaving.{is_borrowing}
use Rattle.rr_store.specs.Ports.{sender_part}
use Rattle.rr_store.proofs.side.Side.is_borrowing.Given as goal

-- the receiver has nothing from the senders so far
abbrev pub invariant-loop-sender : goal.invariant-loop-sender
invariant-loop-sender g l = is_borrowing (map sender_part (take l.sender-index l.sender-items)) l.receiver ≡ false

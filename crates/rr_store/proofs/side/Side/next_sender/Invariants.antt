use Rattle.std.proofs.Common.{◌-◌, length}
use Rattle.rr_store.specs.Receiving.{IsLookedThrough}
use Rattle.rr_store.proofs.side.Side.next_sender.Given as goal

-- the senders so far, from the first that is asked for, were looked through
abbrev pub invariant-loop-sender : goal.invariant-loop-sender
invariant-loop-sender g l = IsLookedThrough l.self.senders l.receiver l.channel l.most l.from l.start l.is_at_limit

abbrev pub decreases-loop-sender : goal.decreases-loop-sender
decreases-loop-sender g l = length l.self.senders - l.start

use Rattle.std.proofs.Common.{◌≡◌, ◌<◌, ◌-◌, ℕ, [], length}
use Rattle.rr_store.specs.Receiving.{queue_from}
use Rattle.rr_store.proofs.side.Side.is_waiting.Given as goal

-- none of the senders so far has an entry
abbrev pub invariant-loop-sender : goal.invariant-loop-sender
invariant-loop-sender g l = (k : ℕ) → k < l.start → queue_from l.self.senders l.receiver l.channel k ≡ []

abbrev pub decreases-loop-sender : goal.decreases-loop-sender
decreases-loop-sender g l = length l.self.senders - l.start

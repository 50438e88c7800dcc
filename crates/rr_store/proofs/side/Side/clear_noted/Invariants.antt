use Rattle.std.proofs.Common.{◌≡◌, ◌-◌, length}
use Rattle.rr_store.specs.Clearing.{IsClearedBelow}
use Rattle.rr_store.specs.Draining.{HaveQueues}
use Rattle.rr_store.specs.Receiving.{HaveChannels}
use Rattle.rr_store.proofs.side.Side.clear_noted.Given as goal

-- the senders so far are emptied
abbrev pub invariant-loop-sender : goal.invariant-loop-sender
invariant-loop-sender g l =
    IsClearedBelow l.receiver l.channel l.start l.initial.self.senders l.self.senders × HaveQueues l.self.senders l.receiver
    × HaveChannels l.self.senders l.receiver l.channel × (l.self ≡ record l.initial.self { senders = l.self.senders })

abbrev pub decreases-loop-sender : goal.decreases-loop-sender
decreases-loop-sender g l = length l.self.senders - l.start

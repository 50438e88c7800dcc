use Rattle.std.proofs.Common.{◌≡◌}
use Rattle.rr_store.proofs.leaving.Channels.{AreDrainedBelow}
use Rattle.rr_store.proofs.side.Side.clear_for.Given as goal

-- the channels so far are cleared
abbrev pub invariant-loop-channel : goal.invariant-loop-channel
invariant-loop-channel g l =
    AreDrainedBelow l.receiver l.channel l.initial.self.senders l.self.senders × (l.self ≡ record l.initial.self { senders = l.self.senders })

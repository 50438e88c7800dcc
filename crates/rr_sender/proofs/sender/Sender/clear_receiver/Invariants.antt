use Rattle.rr_sender.proofs.DrainedLaws.{IsDrainedBelow}
use Rattle.rr_sender.proofs.sender.Sender.clear_receiver.Given as goal

-- the channels so far are cleared
abbrev pub invariant-loop-channel : goal.invariant-loop-channel
invariant-loop-channel g l = IsDrainedBelow l.receiver l.channel l.fn.self l.self

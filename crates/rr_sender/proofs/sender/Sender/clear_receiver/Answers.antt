use Rattle.std.proofs.Common.{◌+◌, sym, subst, arith}
use Rattle.rr_sender.proofs.DrainedLaws.{IsDrainedBelow, drained_none, drained_more, drained_all, still_at, still_inside}
use Rattle.rr_sender.proofs.sender.Sender.clear_receiver.Goals as goal

pub loop-channel-init : goal.loop-channel-init
loop-channel-init g c = drained_none c.args.receiver c.args.self.now c.requires

pub clear_queue-requires-clause-receiver : goal.clear_queue-requires-clause-receiver
clear_queue-requires-clause-receiver g c = still_at c.args.receiver c.args.self.now c.requires c.loop-channel.channel c.loop-channel.self
    c.loop-channel.invariant

pub clear_queue-requires-clause-channel : goal.clear_queue-requires-clause-channel
clear_queue-requires-clause-channel g c = still_inside c.args.receiver c.args.self.now c.requires c.loop-channel.channel
    c.loop-channel.self c.loop-channel.invariant (omega (arith, c.loop-channel-test.true, c.channels-channel-end.ensures))

pub loop-channel-preserved : goal.loop-channel-preserved
loop-channel-preserved g c =
    subst (λ m. IsDrainedBelow c.args.receiver (c.loop-channel.channel + 1) c.args.self.now m) (sym c.clear_queue.ensures)
    (drained_more c.args.receiver c.args.self.now c.requires c.loop-channel.channel c.loop-channel.self c.loop-channel.invariant
    (omega (arith, c.loop-channel-test.true, c.channels-channel-end.ensures)))

pub returns : goal.returns
returns g c = drained_all c.args.receiver c.args.self.now c.requires c.loop-channel.channel c.loop-channel.self c.loop-channel.invariant
    (omega (arith, c.loop-channel-test.false, c.channels-channel-end.ensures))

use Rattle.std.proofs.Common.{arith}
use Rattle.rr_sender.proofs.StateLaws.{at_now, inside_now}
use Rattle.rr_sender.proofs.LeavingLaws.{none_dropped, one_dropped, all_dropped}
use Rattle.rr_sender.proofs.sender.Sender.clear_queue.Goals as goal

pub drop_first-requires-clause-receiver : goal.drop_first-requires-clause-receiver
drop_first-requires-clause-receiver g c = rw c.loop.invariant (at_now c.args.self.now _ _ c.requires.receiver c.requires.channel _)

pub drop_first-requires-clause-channel : goal.drop_first-requires-clause-channel
drop_first-requires-clause-channel g c = rw c.loop.invariant (inside_now c.args.self.now _ _ c.requires.receiver c.requires.channel _)

pub loop-init : goal.loop-init
loop-init g c = none_dropped c.args.self.now _ _ c.requires.receiver c.requires.channel

pub loop-preserved : goal.loop-preserved
loop-preserved g c = rw (c.drop_first.ensures, c.loop.invariant) (one_dropped c.args.self.now _ _ c.requires.receiver c.requires.channel _)

pub returns : goal.returns
returns g c = rw c.loop.invariant (all_dropped c.args.self.now _ _ c.requires.receiver c.requires.channel _ (omega arith))

use Rattle.rr_run.proofs.PoolSteps.{held_on, sent_asked}
use Rattle.rr_run.proofs.least.filling.Filling.hold.Goals as goal

pub receive-requires-clause-asked : goal.receive-requires-clause-asked
receive-requires-clause-asked c =
    sent_asked c.args.self.now c.send.new.self c.requires.filled c.in_ok-request.request c.in_ok-request.ensures.filled.1 c.args.server c.requires.served

pub returns-clause-filled : goal.returns-clause-filled
returns-clause-filled c =
    held_on c.release.result c.args.self.now c.send.new.self c.receive.new.self c.release.new.self c.args.server c.in_ok-request.ensures.filled.0
    c.in_ok-receive.ensures.filled.0 c.in_ok-receive.ensures.filled.1 c.release.ensures.filled c.release.ensures.served

use Rattle.rr_run.proofs.PoolSteps.{queued_on, sent_spare}
use Rattle.rr_run.proofs.least.filling.Filling.queue.Goals as goal

pub release-requires-clause-spare : goal.release-requires-clause-spare
release-requires-clause-spare c =
    sent_spare c.args.self.now c.send.new.self c.requires.filled c.in_ok-request.request c.in_ok-request.ensures.filled.1 c.args.server
    c.requires.served.0 c.requires.served.1 c.requires.served.2

pub returns-clause-served : goal.returns-clause-served
returns-clause-served c =
    queued_on c.release.result c.args.self.now c.send.new.self c.release.new.self c.requires.filled c.in_ok-request.request
    c.in_ok-request.ensures.filled.1 c.args.server c.release.ensures.served

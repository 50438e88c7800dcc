use Rattle.std.proofs.Common.{subst}
use Rattle.rr_run.specs.Filled.{Does}
use Rattle.rr_run.proofs.PoolSteps.{created_stays}
use Rattle.rr_run.proofs.least.filling.Filling.create_server.Goals as goal

pub returns-in-Created-clause-filled : goal.returns-in-Created-clause-filled
returns-in-Created-clause-filled c =
    created_stays c.args.self.now c.carry_out.new.self c.requires c.carry_out.ensures.hub c.in_ok-server.ensures.noted c.carry_out.ensures.live _
    c.in-Created.server (subst (Does c.args.self.now c.carry_out.new.self _) c.in-Created.is c.in_ok-server.ensures.step)

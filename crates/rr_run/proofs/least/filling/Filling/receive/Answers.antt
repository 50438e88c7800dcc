use Rattle.std.proofs.Common.{subst}
use Rattle.rr_run.specs.Filled.{Does}
use Rattle.rr_run.proofs.PoolSteps.{received_stays}
use Rattle.rr_run.proofs.least.filling.Filling.receive.Goals as goal

pub returns-in-Active-clause-filled : goal.returns-in-Active-clause-filled
returns-in-Active-clause-filled c =
    received_stays c.args.self.now c.carry_out.new.self c.requires.filled c.carry_out.ensures.hub c.in_ok-carry_out.ensures.noted
    c.carry_out.ensures.live c.args.server c.args.request c.requires.asked
    (subst (Does c.args.self.now c.carry_out.new.self _) c.in-Active.is c.in_ok-carry_out.ensures.step)

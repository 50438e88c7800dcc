use Rattle.std.proofs.Common.{subst}
use Rattle.rr_run.specs.Filled.{Does}
use Rattle.rr_run.proofs.PoolSteps.{released_stays}
use Rattle.rr_run.proofs.least.filling.Filling.release.Goals as goal

pub returns-in-Done-clause-filled : goal.returns-in-Done-clause-filled
returns-in-Done-clause-filled c =
    (released_stays c.args.self.now c.carry_out.new.self c.requires.filled c.carry_out.ensures.hub c.in_ok-carry_out.ensures.noted
    c.carry_out.ensures.live c.args.request c.requires.spare
    (subst (Does c.args.self.now c.carry_out.new.self _) c.in-Done.is c.in_ok-carry_out.ensures.step)).0

pub returns-in-Done-clause-served : goal.returns-in-Done-clause-served
returns-in-Done-clause-served c =
    (released_stays c.args.self.now c.carry_out.new.self c.requires.filled c.carry_out.ensures.hub c.in_ok-carry_out.ensures.noted
    c.carry_out.ensures.live c.args.request c.requires.spare
    (subst (Does c.args.self.now c.carry_out.new.self _) c.in-Done.is c.in_ok-carry_out.ensures.step)).1

use Rattle.std.proofs.Common.{subst}
use Rattle.rr_run.specs.Filled.{Does}
use Rattle.rr_run.proofs.PoolSteps.{live_fits, loaned_grows}
use Rattle.rr_run.proofs.least.filling.Filling.loan.Goals as goal

pub overflow_add-self : goal.overflow_add-self
overflow_add-self c = record {
  fits = live_fits _
      (loaned_grows c.args.self.now c.carry_out.new.self c.requires c.carry_out.ensures.hub c.in_ok-carry_out.ensures.noted c.carry_out.ensures.live
      (subst (Does c.args.self.now c.carry_out.new.self _) c.in-Loaned.is c.in_ok-carry_out.ensures.step));
}

pub returns-in-Loaned-clause-filled : goal.returns-in-Loaned-clause-filled
returns-in-Loaned-clause-filled c =
    loaned_grows c.args.self.now c.carry_out.new.self c.requires c.carry_out.ensures.hub c.in_ok-carry_out.ensures.noted c.carry_out.ensures.live
    (subst (Does c.args.self.now c.carry_out.new.self _) c.in-Loaned.is c.in_ok-carry_out.ensures.step)

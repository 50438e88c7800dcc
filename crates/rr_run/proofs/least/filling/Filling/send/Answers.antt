use Rattle.std.proofs.Common.{subst}
use Rattle.rr_run.specs.Filled.{Does}
use Rattle.rr_run.proofs.PoolSteps.{live_fits, sent_grows}
use Rattle.rr_run.proofs.least.filling.Filling.send.Goals as goal

pub overflow_add-self : goal.overflow_add-self
overflow_add-self c = record {
  fits = live_fits _
      (sent_grows c.args.self.now c.carry_out.new.self c.requires c.carry_out.ensures.hub c.in_ok-request.ensures.noted c.carry_out.ensures.live
      c.in-Pending.request (subst (Does c.args.self.now c.carry_out.new.self _) c.in-Pending.is c.in_ok-request.ensures.step)).0;
}

pub returns-in-Pending-clause-filled : goal.returns-in-Pending-clause-filled
returns-in-Pending-clause-filled c =
    sent_grows c.args.self.now c.carry_out.new.self c.requires c.carry_out.ensures.hub c.in_ok-request.ensures.noted c.carry_out.ensures.live
    c.in-Pending.request (subst (Does c.args.self.now c.carry_out.new.self _) c.in-Pending.is c.in_ok-request.ensures.step)

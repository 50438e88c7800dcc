use Rattle.std.proofs.Common.{◌<◌, sym, subst}
use Rattle.rr_protocol.specs.declared.limits.Limits.{Limits}
use Rattle.rr_run.proofs.PoolSteps.{grows_on, same_on}
use Rattle.rr_run.proofs.least.filling.Filling.queue_all.Goals as goal

pub loop-preserved : goal.loop-preserved
loop-preserved c = (
  grows_on c.args.self.now c.loop.self c.queue.new.self c.loop.counter 1 c.loop.invariant.0 c.in_ok-queue.ensures.filled,
  same_on c.args.self.now c.loop.self c.queue.new.self c.loop.invariant.1 c.in_ok-queue.ensures.hub,
  c.in_ok-queue.ensures.served c.loop.counter
      (subst (λ (l : Limits). c.loop.counter < l.max_active_requests_per_client) (sym c.loop.invariant.1.limits) c.loop-test.true)
      c.loop.invariant.2,
)

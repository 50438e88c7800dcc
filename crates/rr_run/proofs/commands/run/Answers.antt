use Rattle.std.proofs.Common.{◌+◌, sym, subst, arith}
use Rattle.rr_run.proofs.Continuing.{bounded, goes_on, never_dry}
use Rattle.rr_run.proofs.Running.{IsRunning, run_starts, run_goes_on, run_ends}
use Rattle.rr_run.proofs.commands.run.Goals as goal

pub loop-command-init : goal.loop-command-init
loop-command-init g c = (
  subst (λ after. IsRunning g.K.BackpressureFn.action g.T.Default.is_default g.H.Default.is_default g.B.Body.family c.args.runner.now
      c.args.runner.now c.args.commands.now 0 c.args.replies.now.items after) (sym c.in_ok-reserve.ensures.items)
      (run_starts g.K.BackpressureFn.action g.T.Default.is_default g.H.Default.is_default g.B.Body.family c.args.runner.now
      c.args.commands.now c.args.replies.now.items),
  omega (arith, c.in_ok-reserve.ensures.len, c.in_ok-reserve.ensures.ok),
)

pub loop-command-preserved : goal.loop-command-preserved
loop-command-preserved g c = (
  subst (λ after. IsRunning g.K.BackpressureFn.action g.T.Default.is_default g.H.Default.is_default g.B.Body.family c.args.runner.now
      c.apply.new.self c.args.commands.now (c.loop-command.command-index + 1) c.args.replies.now.items after)
      (sym c.push_reserved.ensures.items)
      (run_goes_on g.K.BackpressureFn.action g.T.Default.is_default g.H.Default.is_default g.B.Body.family c.args.runner.now
      c.loop-command.runner c.args.commands.now c.loop-command.command-index c.args.replies.now.items c.loop-command.replies.items
      c.loop-command.invariant.0 c.command-item.result c.loop-command-test.true c.command-item.is
      c.apply.result c.apply.new.self c.apply.ensures.step),
  omega (arith, c.loop-command.invariant.1, c.push_reserved.ensures.len, c.push_reserved.ensures.capacity),
)

pub returns-clause-answer_rule : goal.returns-clause-answer_rule
returns-clause-answer_rule g c =
    goes_on g.K.BackpressureFn.action g.T.Default.is_default g.H.Default.is_default g.B.Body.family c.args.runner.now c.loop-command.runner
    c.args.commands.now c.args.replies.now.items c.loop-command.replies.items
    (run_ends g.K.BackpressureFn.action g.T.Default.is_default g.H.Default.is_default g.B.Body.family c.args.runner.now c.loop-command.runner
    c.args.commands.now c.loop-command.command-index c.args.replies.now.items c.loop-command.replies.items c.loop-command.invariant.0
    (omega (arith, c.loop-command-test.false)))

pub returns-clause-bounds : goal.returns-clause-bounds
returns-clause-bounds g c =
    bounded g.K.BackpressureFn.action g.T.Default.is_default g.H.Default.is_default g.B.Body.family c.args.runner.now c.loop-command.runner
    c.args.commands.now c.args.replies.now.items c.loop-command.replies.items
    (run_ends g.K.BackpressureFn.action g.T.Default.is_default g.H.Default.is_default g.B.Body.family c.args.runner.now c.loop-command.runner
    c.args.commands.now c.loop-command.command-index c.args.replies.now.items c.loop-command.replies.items c.loop-command.invariant.0
    (omega (arith, c.loop-command-test.false)))

pub returns-clause-whole_pools : goal.returns-clause-whole_pools
returns-clause-whole_pools g c =
    never_dry g.K.BackpressureFn.action g.T.Default.is_default g.H.Default.is_default g.B.Body.family c.args.runner.now c.loop-command.runner
    c.args.commands.now c.args.replies.now.items c.loop-command.replies.items
    (run_ends g.K.BackpressureFn.action g.T.Default.is_default g.H.Default.is_default g.B.Body.family c.args.runner.now c.loop-command.runner
    c.args.commands.now c.loop-command.command-index c.args.replies.now.items c.loop-command.replies.items c.loop-command.invariant.0
    (omega (arith, c.loop-command-test.false)))

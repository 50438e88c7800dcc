use Rattle.rr_run.proofs.Memory.{memory_taken}
use Rattle.rr_run.proofs.runner.Runner.apply.Goals as goal

pub returns-clause-memory : goal.returns-clause-memory
returns-clause-memory g c =
    memory_taken g.K.BackpressureFn.action g.T.Default.is_default g.H.Default.is_default g.B.Body.family
    c.args.self.now c.step.new.self c.args.command c.step.result c.step.ensures.step
    c.step.ensures.memory

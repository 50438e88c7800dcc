use Rattle.rr_run.proofs.Knowing.{still_known}
use Rattle.rr_run.proofs.runner.Runner.step.Goals as goal

pub invariant_of-self-in-Some-find : goal.invariant_of-self-in-Some-find
invariant_of-self-in-Some-find g c =
    still_known c.self.inside.places c.act.new.places c.self.inside.core c.act.new.core c.self.invariant g.K.BackpressureFn.action
    g.T.Default.is_default g.H.Default.is_default g.B.Body.family c.args.command c.act.result c.act.ensures.step c.act.ensures.places

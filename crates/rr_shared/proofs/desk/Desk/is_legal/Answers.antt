use Rattle.std.proofs.Common.{subst}
use Rattle.rr_shared.specs.Histories.{IsLegal, without_callers}
use Rattle.rr_shared.proofs.desk.Desk.is_legal.Goals as goal

pub returns : goal.returns
returns g c =
    subst (λ calls. IsLegal g.K.BackpressureFn.action g.T.Default.is_default g.H.Default.is_default g.B.Body.family g.N.Naming.limits
    g.N.Naming.node_id (without_callers calls)) c.self.view_is (c.self.inside.runner, c.self.invariant.1)

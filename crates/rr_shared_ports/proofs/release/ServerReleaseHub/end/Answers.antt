use Rattle.rr_shared_ports.proofs.Words.{released}
use Rattle.rr_shared_ports.proofs.release.ServerReleaseHub.end.Goals as goal

-- it is released, and nothing else
pub returns-clause-steps : goal.returns-clause-steps
returns-clause-steps g c = (
  c.release.ensures.keeps,
  released g.K.BackpressureFn.action g.QH.Default.is_default g.PH.Default.is_default c.args.hub.now c.release.new.hub c.args.self c.release.ensures.released,
)

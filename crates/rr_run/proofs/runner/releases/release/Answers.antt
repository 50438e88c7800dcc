use Rattle.std.proofs.Common.{ap, ◌∙◌}
use Rattle.rr_protocol.specs.State.{handle_at}
use Rattle.rr_run.proofs.Handles.{released_gone}
use Rattle.rr_run.proofs.Knowing.{forgets_gone}
use Rattle.rr_run.proofs.runner.releases.release.Goals as goal

-- what was released is no handle any more
pub returns-in-Ok-clause-places : goal.returns-in-Ok-clause-places
returns-in-Ok-clause-places g c =
    forgets_gone _ _ c.release.new.core _ _ c.number.ensures c.forget.ensures
    (ap (λ s. handle_at s c.args.id.now) c.in-Ok.ensures.released ∙ released_gone c.args.core.now c.args.id.now)

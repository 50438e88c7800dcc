use Rattle.std.proofs.Common.{ap, ◌∙◌}
use Rattle.std.specs.FinMap.{get-empty}
use Rattle.std.specs.Ordering.{nat_cmp}
use Rattle.rr_protocol.specs.State.{handle_at}
use Rattle.rr_run.proofs.runner.Runner.new.Goals as goal

pub invariant_of-result : goal.invariant_of-result
invariant_of-result g c = λ complete n none. ap (λ s. handle_at s n) c.in_ok-core.ensures.1 ∙ get-empty nat_cmp n

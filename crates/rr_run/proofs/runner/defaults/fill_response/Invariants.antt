use Rattle.rr_run.proofs.Defaults.{WritesDefaults}
use Rattle.rr_run.proofs.runner.defaults.fill_response.Given as goal

-- the elements so far are defaults
abbrev pub invariant-loop : goal.invariant-loop
invariant-loop g l = WritesDefaults g.T.Default.is_default l.fn.core l.id l.counter l.core

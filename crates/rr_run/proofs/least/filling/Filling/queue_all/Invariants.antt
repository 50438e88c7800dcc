use Rattle.rr_run.specs.Filled.{HasGrown, HasQueued, IsSameHub}
use Rattle.rr_run.proofs.least.filling.Filling.queue_all.Given as goal

-- one request more lives for each that is queued
abbrev pub invariant-loop : goal.invariant-loop
invariant-loop l = HasGrown l.counter l.fn.self l.self × IsSameHub l.fn.self l.self × HasQueued l.self l.server l.counter

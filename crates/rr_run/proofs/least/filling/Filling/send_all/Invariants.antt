use Rattle.rr_run.specs.Filled.{HasGrown, IsSameHub}
use Rattle.rr_run.proofs.least.filling.Filling.send_all.Given as goal

-- one request more lives for each that was sent
abbrev pub invariant-loop : goal.invariant-loop
invariant-loop l = HasGrown l.counter l.fn.self l.self × IsSameHub l.fn.self l.self

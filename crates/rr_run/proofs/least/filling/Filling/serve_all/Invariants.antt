use Rattle.std.proofs.Common.{◌*◌}
use Rattle.rr_run.specs.Filled.{HasGrown, IsSameHub, server_requests}
use Rattle.rr_run.proofs.least.filling.Filling.serve_all.Given as goal

-- twice as many requests as a server may hold live for each server
abbrev pub invariant-loop : goal.invariant-loop
invariant-loop l = HasGrown (l.counter * server_requests l.fn.self.limits) l.fn.self l.self × IsSameHub l.fn.self l.self

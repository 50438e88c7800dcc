use Rattle.rr_slots.proofs.HolderLaws.{all_counted}
use Rattle.std.proofs.Common.{arith, map}
use Rattle.rr_slots.specs.Threads.{holders_of}
use Rattle.rr_slots.proofs.holders.Holders.free.Goals as goal

pub returns-clause-rest : goal.returns-clause-rest
returns-clause-rest c = rw (← c.self.view_is) (omega (
  arith,
  c.self.invariant.stored,
  all_counted (map holders_of c.self.inside.slots.slots),
))

use Rattle.std.proofs.Common.{Some, subst, sym}
use Rattle.rr_run.specs.Known.{Remembers}
use Rattle.rr_run.proofs.runner.loans.loan.Goals as goal

-- the number of the handle that was loaned is that of its id
pub returns-in-Ok-clause-places : goal.returns-in-Ok-clause-places
returns-in-Ok-clause-places g c = subst (λ k. Remembers c.args.places.now (Some k) c.remember.new.self) (sym c.number.ensures) c.remember.ensures

use Rattle.rr_run.specs.Known.{place_aside}
use Rattle.rr_run.proofs.Added.{added}
use Rattle.rr_run.proofs.places.Places.set_aside.Goals as goal

pub returns-in-Ok-clause-others : goal.returns-in-Ok-clause-others
returns-in-Ok-clause-others c = λ complete. (
  complete,
  added (place_aside c.args.self.now) (place_aside (record c.args.self.now { others = c.insert.new.self })) c.args.spot.number c.args.spot.place c.in-Ok.ensures.updates.0,
)

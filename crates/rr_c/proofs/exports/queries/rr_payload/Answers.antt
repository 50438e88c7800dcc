use Rattle.std.proofs.Common.{refl, Ok, Err}
use Rattle.rr_c.proofs.exports.queries.rr_payload.Goals as goal

pub returns-in-Ok : goal.returns-in-Ok
returns-in-Ok c = rw (← c.hub_in.ensures.value) (Ok c.in-Ok.payload.now, (c.in-Ok.ensures, refl), refl)

pub returns-in-Err : goal.returns-in-Err
returns-in-Err c = rw (← c.hub_in.ensures.value) (Err c.in-Err.refusal, (c.in-Err.ensures, refl), c.code.ensures)

use Rattle.std.proofs.Common.{refl, Ok}
use Rattle.rr_c.proofs.exports.in_place.rr_loan_in_place.Goals as goal

pub returns-in-Ok-payload-clause-loans : goal.returns-in-Ok-payload-clause-loans
returns-in-Ok-payload-clause-loans c =
    rw (c.hub_in-in-Ok.ensures.value, ← c.hub_in.ensures.value) (Ok c.in-Ok.id, c.in-Ok.ensures.loans, refl, refl)

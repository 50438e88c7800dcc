use Rattle.rr_c.proofs.exports.queries.rr_origin.Goals as goal

pub returns : goal.returns
returns c = rw (← c.hub_in.ensures.value) (c.origin.result, c.origin.ensures, c.write.ensures.code, c.write.ensures.value)

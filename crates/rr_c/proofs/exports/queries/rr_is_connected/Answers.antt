use Rattle.rr_c.proofs.exports.queries.rr_is_connected.Goals as goal

pub returns : goal.returns
returns c = rw (← c.hub_in.ensures.value) (c.is_connected.result, c.is_connected.ensures, c.write.ensures.code, c.write.ensures.value)

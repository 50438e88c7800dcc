use Rattle.rr_c.proofs.exports.writes.rr_set.Goals as goal

pub returns : goal.returns
returns c = (c.set.result, rw (c.hub_in.ensures.value) at c.set.ensures, c.write.ensures.code, c.write.ensures.value)

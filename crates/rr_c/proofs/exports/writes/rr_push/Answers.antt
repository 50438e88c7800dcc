use Rattle.rr_c.proofs.exports.writes.rr_push.Goals as goal

pub returns : goal.returns
returns c = (c.push.result, rw (c.hub_in.ensures.value) at c.push.ensures, c.write.ensures.code, c.write.ensures.value)

use Rattle.rr_c.proofs.exports.messages.rr_is_deliverable.Goals as goal

pub returns : goal.returns
returns c = rw (← c.hub_in.ensures.value) (c.is_deliverable.result, c.is_deliverable.ensures, c.write.ensures.code, c.write.ensures.value)

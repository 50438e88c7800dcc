use Rattle.rr_c.proofs.exports.queries.rr_has_entries.Goals as goal

pub returns : goal.returns
returns c = rw (← c.hub_in.ensures.value) (c.has_entries.result, c.has_entries.ensures, c.write.ensures.code, c.write.ensures.value)

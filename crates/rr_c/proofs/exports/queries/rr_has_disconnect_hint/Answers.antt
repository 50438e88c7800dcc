use Rattle.rr_c.proofs.exports.queries.rr_has_disconnect_hint.Goals as goal

pub returns : goal.returns
returns c = rw (← c.hub_in.ensures.value) (c.has_hint.result, c.has_hint.ensures, c.write.ensures.code, c.write.ensures.value)

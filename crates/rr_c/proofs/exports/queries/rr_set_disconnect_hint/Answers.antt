use Rattle.rr_c.proofs.exports.queries.rr_set_disconnect_hint.Goals as goal

pub returns : goal.returns
returns c = (c.set_hint.result, rw (c.hub_in.ensures.value) at c.set_hint.ensures, c.done.ensures)

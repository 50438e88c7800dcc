use Rattle.rr_c.proofs.exports.writes.rr_fill.Goals as goal

pub returns : goal.returns
returns c = (c.fill.result, rw (c.hub_in.ensures.value) at c.fill.ensures, c.done.ensures)

use Rattle.rr_c.proofs.exports.writes.rr_assume_init.Goals as goal

pub returns : goal.returns
returns c = (c.assume_init.result, rw (c.hub_in.ensures.value) at c.assume_init.ensures, c.done.ensures)

use Rattle.rr_c.proofs.exports.writes.rr_set_user_header.Goals as goal

pub returns : goal.returns
returns c = (c.set_user_header.result, rw (c.hub_in.ensures.value) at c.set_user_header.ensures, c.done.ensures)

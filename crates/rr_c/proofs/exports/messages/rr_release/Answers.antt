use Rattle.rr_c.proofs.exports.messages.rr_release.Goals as goal

pub returns : goal.returns
returns c = (c.release.result, rw (c.hub_in.ensures.value) at c.release.ensures, c.done.ensures)

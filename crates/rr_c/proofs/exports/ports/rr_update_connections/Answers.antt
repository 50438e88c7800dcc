use Rattle.rr_c.proofs.exports.ports.rr_update_connections.Goals as goal

pub returns : goal.returns
returns c = rw (← c.hub_in.ensures.value) (c.update_connections.result, c.update_connections.ensures, c.done.ensures)

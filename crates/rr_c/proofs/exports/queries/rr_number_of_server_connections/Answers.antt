use Rattle.rr_c.proofs.exports.queries.rr_number_of_server_connections.Goals as goal

pub returns : goal.returns
returns c = rw (← c.hub_in.ensures.value) (c.servers.result, c.servers.ensures, c.write.ensures.code, c.write.ensures.value)

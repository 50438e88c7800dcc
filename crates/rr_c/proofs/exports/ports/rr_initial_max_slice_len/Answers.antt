use Rattle.rr_c.proofs.exports.ports.rr_initial_max_slice_len.Goals as goal

pub returns : goal.returns
returns c = rw (← c.hub_in.ensures.value) (c.max_slice_len.result, c.max_slice_len.ensures, c.write.ensures.code, c.write.ensures.value)

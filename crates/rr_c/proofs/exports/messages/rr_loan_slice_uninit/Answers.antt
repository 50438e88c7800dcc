use Rattle.rr_c.proofs.exports.messages.rr_loan_slice_uninit.Goals as goal

pub returns : goal.returns
returns c = (c.loan.result, rw (c.hub_in.ensures.value) at c.loan.ensures, c.write.ensures.code, c.write.ensures.value)

use Rattle.rr_store.proofs.store.Store.end_loan_from.Goals as goal

pub returns-clause-ended : goal.returns-clause-ended
returns-clause-ended g c = (c.asked_place-at.result, c.asked_place-at.ensures, c.end_loan_from.ensures)

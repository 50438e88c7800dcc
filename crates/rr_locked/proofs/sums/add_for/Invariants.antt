use Rattle.rr_locked.proofs.sums.add_for.Given as goal

abbrev pub ghost-add_any : goal.ghost-add_any
ghost-add_any g a = g.plus

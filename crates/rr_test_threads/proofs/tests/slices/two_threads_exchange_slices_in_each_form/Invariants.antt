use Rattle.rr_test_threads.proofs.tests.slices.two_threads_exchange_slices_in_each_form.Given as goal

-- the hub that was just opened
abbrev pub ghosts-exchange : goal.ghosts-exchange
ghosts-exchange g a = record { keeper_id = a.opened.keeper_id; log_id = a.opened.log_id; limits = a.opened.limits; node_id = a.opened.node_id }

use Rattle.rr_test_threads.proofs.tests.scenes.threads_make_each_call_and_exchange_numbers.Given as goal

-- the hub that was just opened
abbrev pub ghosts-played : goal.ghosts-played
ghosts-played g a = record { keeper_id = a.opened.keeper_id; log_id = a.opened.log_id; limits = a.opened.limits; node_id = a.opened.node_id }

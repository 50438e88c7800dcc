use Rattle.rr_test_runs.proofs.tests.hubs.threads.two_threads_get_two_numbers.Given as goal

-- the hub that was just opened
abbrev pub ghosts-two_create : goal.ghosts-two_create
ghosts-two_create g a = record { log_id = a.opened.log_id; limits = a.opened.limits; node_id = a.opened.node_id }

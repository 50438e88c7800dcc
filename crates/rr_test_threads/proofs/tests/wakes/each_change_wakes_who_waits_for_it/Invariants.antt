use Rattle.rr_test_threads.proofs.tests.wakes.each_change_wakes_who_waits_for_it.Given as goal

-- the hub that was just opened
abbrev pub ghosts-is_woken : goal.ghosts-is_woken
ghosts-is_woken g a = record { keeper_id = a.opened.keeper_id; log_id = a.opened.log_id; limits = a.opened.limits; node_id = a.opened.node_id }

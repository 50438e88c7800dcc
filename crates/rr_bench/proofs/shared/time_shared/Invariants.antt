use Rattle.rr_bench.proofs.shared.time_shared.Given as goal

-- the hub that was just opened
abbrev pub ghosts-shared : goal.ghosts-shared
ghosts-shared g a = record { log_id = a.opened.log_id; limits = a.opened.limits; node_id = a.opened.node_id }

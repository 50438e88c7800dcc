use Rattle.rr_bench.proofs.idle.idle.Given as goal

-- the hub that was just opened
abbrev pub ghosts-wait_for_close : goal.ghosts-wait_for_close
ghosts-wait_for_close g a = record { keeper_id = a.opened.keeper_id; log_id = a.opened.log_id; limits = a.opened.limits; node_id = a.opened.node_id }

use Rattle.rr_bench.proofs.stress.stress.Given as goal

-- the hub that was just opened
abbrev pub ghosts-together : goal.ghosts-together
ghosts-together g a = record { keeper_id = a.opened.keeper_id; log_id = a.opened.log_id; limits = a.opened.limits; node_id = a.opened.node_id }

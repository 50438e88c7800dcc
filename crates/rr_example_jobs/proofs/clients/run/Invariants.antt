use Rattle.rr_example_jobs.proofs.clients.run.Given as goal

-- the hub that was just opened
abbrev pub ghosts-serve_all : goal.ghosts-serve_all
ghosts-serve_all g a = record { keeper_id = a.opened.keeper_id; log_id = a.opened.log_id; limits = a.opened.limits; node_id = a.opened.node_id }

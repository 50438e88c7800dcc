use Rattle.rr_bench.proofs.locked.time_pair.Given as goal

-- the blank that was just made
abbrev pub ghosts-pair : goal.ghosts-pair
ghosts-pair g a = record { name = a.blank.name; parts = a.blank.parts }

use Rattle.rr_script.proofs.program.threads.Given as goal

-- the blank that was just made
abbrev pub ghosts-exchange : goal.ghosts-exchange
ghosts-exchange g a = record { name = a.blank.name; parts = a.blank.parts }

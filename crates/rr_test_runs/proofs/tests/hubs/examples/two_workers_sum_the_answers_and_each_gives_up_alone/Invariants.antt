use Rattle.rr_test_runs.proofs.tests.hubs.examples.two_workers_sum_the_answers_and_each_gives_up_alone.Given as goal

-- the blank that was just made
abbrev pub ghosts-worked : goal.ghosts-worked
ghosts-worked g a = record { name = a.blank.name; parts = a.blank.parts }

use Rattle.rr_test_runs.proofs.tests.hubs.examples.a_book_makes_so_many_seats.Given as goal

-- the blank that was just made
abbrev pub ghosts-seated : goal.ghosts-seated
ghosts-seated g a = record { name = a.blank.name; parts = a.blank.parts }

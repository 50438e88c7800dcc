use Rattle.rr_test_runs.proofs.tests.hubs.examples.seats_and_book_keep_what_two_seats_call.Given as goal

-- the blank that was just made
abbrev pub ghosts-keep_all : goal.ghosts-keep_all
ghosts-keep_all g a = record { name = a.blank.name; parts = a.blank.parts }

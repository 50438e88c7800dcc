use Rattle.rr_test_runs.proofs.tests.hubs.examples.books_note_calls.Given as goal

-- the blank that was just made
abbrev pub ghosts-told : goal.ghosts-told
ghosts-told g a = record { name = a.blank.name; parts = a.blank.parts }

abbrev pub ghosts-noted : goal.ghosts-noted
ghosts-noted g a = record { name = a.blank.name; parts = a.blank.parts }

use Rattle.rr_test_memory.proofs.books.tell.Given as goal

-- the blank that was just made, of each call
abbrev pub ghosts-new_book : goal.ghosts-new_book
ghosts-new_book g a = record { name = a.blank.name; parts = a.blank.parts }

abbrev pub ghosts-new_hub : goal.ghosts-new_hub
ghosts-new_hub g a = record { name = a.blank.name; parts = a.blank.parts }

abbrev pub ghosts-tell_book : goal.ghosts-tell_book
ghosts-tell_book g a = record { name = a.blank.name; parts = a.blank.parts }

abbrev pub ghosts-tell_hub : goal.ghosts-tell_hub
ghosts-tell_hub g a = record { name = a.blank.name; parts = a.blank.parts }

use Rattle.library_tests.proofs.streams.keeps.Given as goal

abbrev pub ghosts-keeps_so : goal.ghosts-keeps_so
ghosts-keeps_so a = record { name = a.blank.name; parts = a.blank.parts }

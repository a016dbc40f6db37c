use Rattle.library_tests.proofs.streams.writes_so.Given as goal

abbrev pub ghosts-two_writes : goal.ghosts-two_writes
ghosts-two_writes a = record { name = a.blank.name; parts = a.blank.parts }

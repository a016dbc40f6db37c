use Rattle.library_tests.proofs.streams.reads_of.Given as goal

abbrev pub ghosts-four_reads : goal.ghosts-four_reads
ghosts-four_reads a = record { name = a.blank.name; parts = a.blank.parts }

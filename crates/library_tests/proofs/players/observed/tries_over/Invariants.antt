-- The sink counts its failures in a ledger of its own.
use Rattle.library_tests.proofs.players.observed.tries_over.Given as goal

abbrev pub ghosts-tried : goal.ghosts-tried
ghosts-tried g a = record { name = a.written.name; parts = a.written.parts }

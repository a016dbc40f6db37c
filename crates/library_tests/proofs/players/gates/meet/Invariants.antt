-- The sink counts its failures in a ledger of its own.
use Rattle.library_tests.proofs.players.gates.meet.Given as goal

abbrev pub ghosts-plays : goal.ghosts-plays
ghosts-plays g a = record { name = a.written.name; parts = a.written.parts }

-- What is written counts its failures in a ledger of its own.
use Rattle.controller_tests.proofs.trace.trace_of.Given as goal

abbrev pub ghosts-played : goal.ghosts-played
ghosts-played a = record { name = a.written.name; parts = a.written.parts }

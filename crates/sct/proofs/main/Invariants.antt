-- Each stream counts its failures in a ledger of its own, and so do files.
use Rattle.sct.proofs.main.Given as goal

abbrev pub ghosts-serve-L-Ledger : goal.ghosts-serve-L-Ledger
ghosts-serve-L-Ledger g a = record { name = a.streams.read.name; parts = a.streams.read.parts }

abbrev pub ghosts-serve-M-Ledger : goal.ghosts-serve-M-Ledger
ghosts-serve-M-Ledger g a = record { name = a.streams.written.name; parts = a.streams.written.parts }

abbrev pub ghosts-serve-N-Ledger : goal.ghosts-serve-N-Ledger
ghosts-serve-N-Ledger g a = record { name = a.streams.reported.name; parts = a.streams.reported.parts }

abbrev pub ghosts-serve-O-Ledger : goal.ghosts-serve-O-Ledger
ghosts-serve-O-Ledger g a = record { name = a.streams.missed.name; parts = a.streams.missed.parts }

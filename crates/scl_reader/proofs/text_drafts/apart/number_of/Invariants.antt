use Rattle.std.proofs.Common.{◌≡◌, drop}
use Rattle.scl_reader.specs.Inside.Apart.{number_from}
use Rattle.scl_reader.proofs.text_drafts.apart.number_of.Given as goal

abbrev pub invariant-loop-byte : goal.invariant-loop-byte
invariant-loop-byte l = number_from l.number (drop l.byte-index l.byte-items) ≡ number_from 0 l.byte-items

use Rattle.std.proofs.Common.{◌≡◌, false, drop}
use Rattle.extended_reader.specs.Flaws.{is_doubled}
use Rattle.extended_reader.proofs.text_drafts.name_flaws.has_doubled.Given as goal

abbrev pub invariant-loop-byte : goal.invariant-loop-byte
invariant-loop-byte l = is_doubled l.before (drop l.byte-index l.bytes) ≡ is_doubled false l.bytes

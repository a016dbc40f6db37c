use Rattle.std.proofs.Common.{◌≡◌, ◌++◌, drop, map}
use Rattle.scl_reader.specs.Inside.Apart.{number_of}
use Rattle.scl_reader.specs.Flaws.{names}
use Rattle.scl_reader.proofs.text_drafts.apart.numbers_of.Given as goal

abbrev pub invariant-loop-at : goal.invariant-loop-at
invariant-loop-at l = l.numbers.items ++ map number_of (names (drop l.at l.labels)) ≡ map number_of (names l.labels)

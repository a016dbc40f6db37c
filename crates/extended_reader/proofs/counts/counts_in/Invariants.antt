use Rattle.std.proofs.Common.{◌≡◌, ◌+◌, length, drop}
use Rattle.extended_reader.specs.Counts.{counts_of}
use Rattle.extended_reader.proofs.counts.counts_in.Given as goal

abbrev pub invariant-loop-way : goal.invariant-loop-way
invariant-loop-way l = l.counts + length (counts_of (drop l.way-index l.ways)) ≡ length (counts_of l.ways)

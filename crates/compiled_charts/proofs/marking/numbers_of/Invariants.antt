use Rattle.std.proofs.Common.{◌≡◌, ◌++◌, drop}
use Rattle.compiled_charts.specs.Inside.Marks.{numbers_of}
use Rattle.compiled_charts.proofs.marking.numbers_of.Given as goal

abbrev pub invariant-loop-at : goal.invariant-loop-at
invariant-loop-at l = l.numbers ++ numbers_of (drop l.at l.marks) l.at ≡ numbers_of l.marks 0

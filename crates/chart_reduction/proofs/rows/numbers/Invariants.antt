use Rattle.std.proofs.Common.{◌≡◌, ◌++◌, drop}
use Rattle.chart_reduction.specs.Rows.{numbers}
use Rattle.chart_reduction.proofs.rows.numbers.Given as goal

abbrev pub invariant-loop-is_own : goal.invariant-loop-is_own
invariant-loop-is_own l =
    l.made ++ numbers l.number (drop l.is_own-index l.marks) ≡ numbers 0 l.marks

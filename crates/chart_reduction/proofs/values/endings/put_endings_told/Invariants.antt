use Rattle.std.proofs.Common.{◌≡◌, ◌++◌}
use Rattle.chart_reduction.specs.Endings.{endings_told}
use Rattle.chart_reduction.proofs.values.endings.put_endings_told.Given as goal

abbrev pub invariant-loop-before : goal.invariant-loop-before
invariant-loop-before l = l.made ≡ l.fn.made ++ endings_told l.before

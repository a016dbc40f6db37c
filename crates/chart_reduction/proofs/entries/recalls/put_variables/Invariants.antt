use Rattle.std.proofs.Common.{◌≡◌, ◌++◌, drop}
use Rattle.chart_reduction.specs.Histories.{variables_for}
use Rattle.chart_reduction.proofs.entries.recalls.put_variables.Given as goal

abbrev pub invariant-loop-one : goal.invariant-loop-one
invariant-loop-one l = l.made ++ variables_for l.number (drop l.one-index l.kept) ≡ l.fn.made ++ variables_for 1 l.kept

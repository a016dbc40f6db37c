use Rattle.std.proofs.Common.{◌≡◌, ◌++◌, drop}
use Rattle.chart_reduction.specs.Counts.{count_variables}
use Rattle.chart_reduction.proofs.values.count_region.put_count_variables.Given as goal

abbrev pub invariant-loop-condition : goal.invariant-loop-condition
invariant-loop-condition l =
    l.made ++ count_variables l.number (drop l.condition-index l.counts) ≡ l.fn.made ++ count_variables 1 l.counts

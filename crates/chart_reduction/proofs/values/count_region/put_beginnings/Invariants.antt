use Rattle.std.proofs.Common.{◌≡◌, ◌++◌, drop}
use Rattle.chart_reduction.specs.Counts.{beginnings}
use Rattle.chart_reduction.proofs.values.count_region.put_beginnings.Given as goal

abbrev pub invariant-loop-condition : goal.invariant-loop-condition
invariant-loop-condition l =
    l.made ++ beginnings l.variable (drop l.condition-index l.counts) ≡ l.fn.made ++ beginnings l.first l.counts

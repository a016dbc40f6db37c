use Rattle.std.proofs.Common.{◌≡◌, ◌++◌, drop}
use Rattle.chart_reduction.specs.Counts.{all_counting}
use Rattle.chart_reduction.proofs.values.count_region.put_all_counting.Given as goal

abbrev pub invariant-loop-condition : goal.invariant-loop-condition
invariant-loop-condition l =
    l.made ++ all_counting l.place l.variable (drop l.condition-index l.counts) ≡ l.fn.made ++ all_counting l.first_place l.first l.counts

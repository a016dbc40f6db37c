use Rattle.std.proofs.Common.{◌≡◌, ◌++◌, map, drop}
use Rattle.extended_charts.specs.Reading.{replaced}
use Rattle.chart_reduction.proofs.values.constants.put_valued_counts.Given as goal

abbrev pub invariant-loop-condition : goal.invariant-loop-condition
invariant-loop-condition l =
    l.made ++ map (replaced l.reading) (drop l.condition-index l.counts) ≡ l.fn.made ++ map (replaced l.reading) l.counts

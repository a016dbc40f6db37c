use Rattle.std.proofs.Common.{◌≡◌, ◌++◌, drop}
use Rattle.chart_reduction.specs.Counts.{tellings}
use Rattle.chart_reduction.proofs.values.counts.put_tellings.Given as goal

abbrev pub invariant-loop-transition : goal.invariant-loop-transition
invariant-loop-transition l =
    l.made ++ tellings l.first l.counts (drop l.transition-index l.transitions) ≡ l.fn.made ++ tellings l.first l.counts l.transitions

use Rattle.std.proofs.Common.{◌≡◌, ◌++◌, map, drop}
use Rattle.chart_reduction.specs.Clocks.{timed_by}
use Rattle.chart_reduction.proofs.values.clocks.put_timed.Given as goal

abbrev pub invariant-loop-transition : goal.invariant-loop-transition
invariant-loop-transition l =
    l.made ++ map (timed_by l.reading) (drop l.transition-index l.transitions) ≡ l.fn.made ++ map (timed_by l.reading) l.transitions

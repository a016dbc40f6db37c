use Rattle.std.proofs.Common.{◌≡◌, ◌++◌, map, drop}
use Rattle.chart_reduction.specs.Exits.{left_by}
use Rattle.chart_reduction.proofs.entries.departures.put_all_left_by.Given as goal

abbrev pub invariant-loop-transition : goal.invariant-loop-transition
invariant-loop-transition l =
    l.made ++ map (left_by l.own) (drop l.transition-index l.transitions) ≡ l.fn.made ++ map (left_by l.own) l.transitions

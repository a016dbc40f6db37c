use Rattle.std.proofs.Common.{◌≡◌, ◌++◌, map, drop}
use Rattle.chart_reduction.specs.Constants.{valued_transition}
use Rattle.chart_reduction.proofs.values.constants.put_valued_transitions.Given as goal

abbrev pub invariant-loop-transition : goal.invariant-loop-transition
invariant-loop-transition l =
    l.made ++ map (valued_transition l.reading) (drop l.transition-index l.transitions) ≡ l.fn.made ++ map (valued_transition l.reading) l.transitions

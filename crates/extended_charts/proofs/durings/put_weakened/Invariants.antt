use Rattle.std.proofs.Common.{◌≡◌, ◌++◌, map, drop}
use Rattle.extended_charts.specs.Durings.{weakened}
use Rattle.extended_charts.proofs.durings.put_weakened.Given as goal

abbrev pub invariant-loop-transition : goal.invariant-loop-transition
invariant-loop-transition l =
    l.made ++ map weakened (drop l.transition-index l.transitions) ≡ l.fn.made ++ map weakened l.transitions

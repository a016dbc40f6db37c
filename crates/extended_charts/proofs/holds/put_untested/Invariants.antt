use Rattle.std.proofs.Common.{◌≡◌, ◌++◌, map, drop}
use Rattle.extended_charts.specs.Holds.{untested}
use Rattle.extended_charts.proofs.holds.put_untested.Given as goal

abbrev pub invariant-loop-transition : goal.invariant-loop-transition
invariant-loop-transition l =
    l.made ++ map untested (drop l.transition-index l.transitions) ≡ l.fn.made ++ map untested l.transitions

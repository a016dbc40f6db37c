use Rattle.std.proofs.Common.{◌≡◌, ◌++◌, drop}
use Rattle.extended_charts.specs.Durings.{immediate_ones}
use Rattle.extended_charts.proofs.durings.put_immediate_ones.Given as goal

abbrev pub invariant-loop-during : goal.invariant-loop-during
invariant-loop-during l =
    l.made ++ immediate_ones (drop l.during-index l.durings) ≡ l.fn.made ++ immediate_ones l.durings

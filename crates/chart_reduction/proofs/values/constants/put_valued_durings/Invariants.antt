use Rattle.std.proofs.Common.{◌≡◌, ◌++◌, map, drop}
use Rattle.chart_reduction.specs.Constants.{valued_during}
use Rattle.chart_reduction.proofs.values.constants.put_valued_durings.Given as goal

abbrev pub invariant-loop-during : goal.invariant-loop-during
invariant-loop-during l =
    l.made ++ map (valued_during l.reading) (drop l.during-index l.durings) ≡ l.fn.made ++ map (valued_during l.reading) l.durings

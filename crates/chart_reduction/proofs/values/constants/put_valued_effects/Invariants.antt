use Rattle.std.proofs.Common.{◌≡◌, ◌++◌, map, drop}
use Rattle.chart_reduction.specs.Constants.{valued_effect}
use Rattle.chart_reduction.proofs.values.constants.put_valued_effects.Given as goal

abbrev pub invariant-loop-effect : goal.invariant-loop-effect
invariant-loop-effect l =
    l.made ++ map (valued_effect l.reading) (drop l.effect-index l.effects) ≡ l.fn.made ++ map (valued_effect l.reading) l.effects

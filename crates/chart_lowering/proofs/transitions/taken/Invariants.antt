use Rattle.std.proofs.Common.{◌≡◌, ◌++◌, map, drop}
use Rattle.chart_lowering.specs.Lowering.{assignment}
use Rattle.chart_lowering.proofs.transitions.taken.Given as goal

abbrev pub invariant-loop-effect : goal.invariant-loop-effect
invariant-loop-effect l = l.text ++ map assignment (drop l.effect-index l.effect-items) ≡ map assignment l.transition.effects

use Rattle.std.proofs.Common.{◌≡◌, ◌++◌, drop}
use Rattle.node_sources.specs.Places.{of_effects}
use Rattle.node_sources.proofs.chart_places.rows.put_effects.Given as goal

abbrev pub invariant-loop-effect : goal.invariant-loop-effect
invariant-loop-effect l = l.places ++ of_effects (drop l.effect-index l.effects) ≡ l.fn.places ++ of_effects l.effects

use Rattle.std.proofs.Common.{◌≡◌, ◌++◌, drop}
use Rattle.node_sources.specs.StatesAround.{of_effects}
use Rattle.node_sources.proofs.chart_places.states_around.put_effects.Given as goal

abbrev pub invariant-loop : goal.invariant-loop
invariant-loop l = l.states_around ++ of_effects l.around (drop l.index l.effects) ≡ l.fn.states_around ++ of_effects l.around l.effects

use Rattle.std.proofs.Common.{◌≡◌, ◌≤◌, drop}
use Rattle.node_sources.specs.Origins.{made_behind}
use Rattle.node_sources.proofs.extended.text_places.effects.made_behind.Given as goal

abbrev pub invariant-loop-effect : goal.invariant-loop-effect
invariant-loop-effect l = record {
  is : made_behind l.variables l.made (drop l.effect-index l.effects) ≡ made_behind l.variables 0 l.effects;
  few : l.made ≤ l.effect-index;
}

use Rattle.std.proofs.Common.{◌≡◌, ◌++◌, drop}
use Rattle.node_sources.specs.Origins.{effects_from}
use Rattle.node_sources.proofs.extended.text_places.effects.put_effects.Given as goal

abbrev pub invariant-loop-place : goal.invariant-loop-place
invariant-loop-place l =
    l.origins ++ effects_from l.from l.row l.before l.place (drop l.place l.effects) ≡
    l.fn.origins ++ effects_from l.from l.row l.before 0 l.effects

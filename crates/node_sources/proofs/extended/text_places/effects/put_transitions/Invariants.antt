use Rattle.std.proofs.Common.{◌≡◌, drop}
use Rattle.node_sources.specs.Origins.{behind_transitions}
use Rattle.node_sources.proofs.extended.text_places.effects.put_transitions.Given as goal

abbrev pub invariant-loop-transition : goal.invariant-loop-transition
invariant-loop-transition l =
    behind_transitions l.author l.from (drop l.transition-index l.transitions) l.origins ≡
    behind_transitions l.author l.from l.transitions l.fn.origins

use Rattle.std.proofs.Common.{◌≡◌, ◌++◌, drop}
use Rattle.node_sources.specs.EffectRows.{of_transitions}
use Rattle.node_sources.proofs.extended.text_places.effect_rows.put_transitions.Given as goal

abbrev pub invariant-loop-transition : goal.invariant-loop-transition
invariant-loop-transition l =
    l.counts ++ of_transitions (drop l.transition-index l.transitions) ≡ l.fn.counts ++ of_transitions l.transitions

use Rattle.std.proofs.Common.{◌≡◌, map, drop}
use Rattle.node_sources.specs.Places.{all, beside, of_transition}
use Rattle.node_sources.proofs.chart_places.rows.put_transitions.Given as goal

abbrev pub invariant-loop-transition : goal.invariant-loop-transition
invariant-loop-transition l =
    beside l.rows (all (map of_transition (drop l.transition-index l.transitions))) ≡ beside l.fn.rows (all (map of_transition l.transitions))

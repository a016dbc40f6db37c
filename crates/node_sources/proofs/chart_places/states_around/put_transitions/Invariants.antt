use Rattle.std.proofs.Common.{◌≡◌, drop}
use Rattle.node_sources.specs.StatesAround.{beside, of_transitions}
use Rattle.node_sources.proofs.chart_places.states_around.put_transitions.Given as goal

abbrev pub invariant-loop-transition : goal.invariant-loop-transition
invariant-loop-transition l =
    beside l.states_around (of_transitions l.around (drop l.transition-index l.transitions)) ≡ beside l.fn.states_around (of_transitions l.around l.transitions)

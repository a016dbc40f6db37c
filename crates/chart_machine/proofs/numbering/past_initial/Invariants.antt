use Rattle.std.proofs.Common.{◌≡◌, ◌+◌, map, drop}
use Rattle.chart_machine.specs.Table.{subtree_of_state, regions_in_initial}
use Rattle.chart_machine.proofs.numbering.past_initial.Given as goal

abbrev pub invariant-loop-state : goal.invariant-loop-state
invariant-loop-state l =
    l.next + regions_in_initial (map subtree_of_state (drop l.state-index l.states)) ≡
    l.initial.next + regions_in_initial (map subtree_of_state l.states)

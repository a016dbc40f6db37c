use Rattle.std.proofs.Common.{◌≡◌, ◌+◌, map, drop}
use Rattle.chart_machine.specs.Table.{subtree_of_region, subtree_of_state, states_in}
use Rattle.chart_machine.proofs.numbering.+states.Given as goal

abbrev pub invariant-past_states-loop-region : goal.invariant-past_states-loop-region
invariant-past_states-loop-region l =
    l.past + states_in (map subtree_of_region (drop l.region-index l.region-items)) ≡ l.next + (subtree_of_state l.state).states

abbrev pub invariant-past_states_of_region-loop-state : goal.invariant-past_states_of_region-loop-state
invariant-past_states_of_region-loop-state l =
    l.past + states_in (map subtree_of_state (drop l.state-index l.state-items)) ≡ l.next + (subtree_of_region l.region).states

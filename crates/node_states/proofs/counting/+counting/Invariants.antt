use Rattle.std.proofs.Common.{◌≡◌, suc, ◌+◌, map, drop}
use Rattle.core_charts.specs.declared.region.Region.TheViews.{out-State}
use Rattle.node_states.specs.Nodes.{states_in, states_among, piece_of_region, piece_of_state}
use Rattle.node_states.proofs.counting.+counting.Given as goal

abbrev pub invariant-region_states-loop-state : goal.invariant-region_states-loop-state
invariant-region_states-loop-state l =
    l.states + states_among (map piece_of_state (drop l.state-index l.state-items)) ≡ (piece_of_region l.region).states

abbrev pub invariant-state_states-loop-region : goal.invariant-state_states-loop-region
invariant-state_states-loop-region l =
    l.states + states_in (map piece_of_region (drop l.region-index l.region-items)) ≡ suc (states_in (map piece_of_region (out-State l.state).regions))

use Rattle.std.proofs.Common.{◌≡◌, ◌+◌, map, drop}
use Rattle.abort_expansion.specs.Pieces.{superstates_in, states_in, variables_in}
use Rattle.abort_expansion.specs.Expansion.{piece_of_region, piece_of_state, superstates_among, states_among, variables_among}
use Rattle.abort_expansion.proofs.counting.+counting.Given as goal

abbrev pub invariant-region_size-loop-state : goal.invariant-region_size-loop-state
invariant-region_size-loop-state l = record {
  superstates : l.size.superstates + superstates_among (map piece_of_state (drop l.state-index l.state-items)) ≡ (piece_of_region l.region).superstates;
  states : l.size.states + states_among (map piece_of_state (drop l.state-index l.state-items)) ≡ (piece_of_region l.region).states;
  variables : l.size.variables + variables_among l.weak (map piece_of_state (drop l.state-index l.state-items)) ≡ (piece_of_region l.region).variables l.weak;
}

abbrev pub invariant-state_size-loop-region : goal.invariant-state_size-loop-region
invariant-state_size-loop-region l = record {
  superstates : l.size.superstates + superstates_in (map piece_of_region (drop l.region-index l.region-items)) ≡ (piece_of_state l.state).superstates;
  states : l.size.states + states_in (map piece_of_region (drop l.region-index l.region-items)) ≡ (piece_of_state l.state).states;
  variables : l.size.variables + variables_in l.inside_weak (map piece_of_region (drop l.region-index l.region-items))
      ≡ (piece_of_state l.state).variables l.weak;
}

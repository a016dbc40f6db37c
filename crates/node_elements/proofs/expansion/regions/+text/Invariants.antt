use Rattle.std.proofs.Common.{◌≡◌, map, drop}
use Rattle.node_elements.specs.ExpansionOrigins.{all_regions, all_states, behind_regions, behind_states, beside, piece_of_region, piece_of_state}
use Rattle.node_elements.proofs.expansion.regions.+text.Given as goal

abbrev pub invariant-put_regions-loop-region : goal.invariant-put_regions-loop-region
invariant-put_regions-loop-region l = record {
  origins : beside l.origins (all_regions (map piece_of_region (drop l.region-index l.regions)) l.around l.counted l.here) ≡ beside l.fn.origins
      (all_regions (map piece_of_region l.regions) l.around l.counted l.fn.at);
  behind : behind_regions (map piece_of_region (drop l.region-index l.regions)) l.here ≡ behind_regions (map piece_of_region l.regions) l.fn.at;
}

abbrev pub invariant-put_states-loop-state : goal.invariant-put_states-loop-state
invariant-put_states-loop-state l = record {
  origins : beside l.origins (all_states (map piece_of_state (drop l.state-index l.states)) l.around l.to l.here) ≡ beside l.fn.origins
      (all_states (map piece_of_state l.states) l.around l.to l.fn.at);
  behind : behind_states (map piece_of_state (drop l.state-index l.states)) l.here ≡ behind_states (map piece_of_state l.states) l.fn.at;
}

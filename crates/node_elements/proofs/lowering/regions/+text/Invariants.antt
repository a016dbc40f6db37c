use Rattle.std.proofs.Common.{◌≡◌, ◌++◌, map, drop}
use Rattle.node_elements.specs.LoweringOrigins.{behind_regions, behind_states, branches, piece_of_region, piece_of_state, texts}
use Rattle.node_elements.proofs.lowering.regions.+text.Given as goal

abbrev pub invariant-put_regions-loop-region : goal.invariant-put_regions-loop-region
invariant-put_regions-loop-region l = record {
  origins : l.origins ++ branches (map piece_of_region (drop l.region-index l.regions)) l.here ≡ l.fn.origins ++ branches
      (map piece_of_region l.regions) l.fn.at;
  behind : behind_regions (map piece_of_region (drop l.region-index l.regions)) l.here ≡ behind_regions (map piece_of_region l.regions) l.fn.at;
}

abbrev pub invariant-put_texts-loop-state : goal.invariant-put_texts-loop-state
invariant-put_texts-loop-state l = record {
  origins : l.origins ++ texts l.are_initial (map piece_of_state (drop l.state-index l.states)) l.here ≡ l.fn.origins ++ texts l.are_initial
      (map piece_of_state l.states) l.fn.at;
  behind : behind_states (map piece_of_state (drop l.state-index l.states)) l.here ≡ behind_states (map piece_of_state l.states) l.fn.at;
}

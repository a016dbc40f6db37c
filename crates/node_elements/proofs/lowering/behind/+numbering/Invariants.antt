use Rattle.std.proofs.Common.{◌≡◌, map, drop}
use Rattle.node_elements.specs.LoweringOrigins.{behind_regions, behind_states, piece_of_region, piece_of_state}
use Rattle.node_elements.proofs.lowering.behind.+numbering.Given as goal

abbrev pub invariant-behind_region-loop-state : goal.invariant-behind_region-loop-state
invariant-behind_region-loop-state l = behind_states (map piece_of_state (drop l.state-index l.state-items)) l.here ≡
    (piece_of_region l.region).behind l.fn.at

abbrev pub invariant-behind_state-loop-region : goal.invariant-behind_state-loop-region
invariant-behind_state-loop-region l = behind_regions (map piece_of_region (drop l.region-index l.region-items)) l.here ≡
    (piece_of_state l.state).behind l.fn.at

use Rattle.std.proofs.Common.{◌≡◌, ◌++◌, map, drop}
use Rattle.node_states.specs.Nodes.{beside, below_among, piece_of_region, piece_of_state}
use Rattle.node_states.proofs.regions.+nodes.Given as goal

abbrev pub invariant-lay_regions-loop-region : goal.invariant-lay_regions-loop-region
invariant-lay_regions-loop-region l =
    l.nodes ++ beside (map piece_of_region (drop l.region-index l.regions)) l.next ≡ l.fn.nodes ++ beside (map piece_of_region l.regions) l.number

abbrev pub invariant-lay_below-loop-state : goal.invariant-lay_below-loop-state
invariant-lay_below-loop-state l =
    l.nodes ++ below_among l.are_initial (map piece_of_state (drop l.state-index l.states)) l.next ≡
    l.fn.nodes ++ below_among l.are_initial (map piece_of_state l.states) l.number

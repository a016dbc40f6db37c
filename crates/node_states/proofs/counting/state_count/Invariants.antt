use Rattle.std.proofs.Common.{◌≡◌, ◌+◌, map, drop}
use Rattle.node_states.specs.Nodes.{states_in, piece_of_region}
use Rattle.node_states.proofs.counting.state_count.Given as goal

abbrev pub invariant-loop-region : goal.invariant-loop-region
invariant-loop-region l = l.states + states_in (map piece_of_region (drop l.region-index l.regions)) ≡ states_in (map piece_of_region l.regions)

use Rattle.std.proofs.Common.{◌≡◌, ◌++◌, map, drop}
use Rattle.node_states.specs.Nodes.{own_among, piece_of_state}
use Rattle.node_states.proofs.regions.lay_own.Given as goal

abbrev pub invariant-loop-state : goal.invariant-loop-state
invariant-loop-state l =
    l.nodes ++ own_among l.are_initial (map piece_of_state (drop l.state-index l.states)) l.next ≡
    l.fn.nodes ++ own_among l.are_initial (map piece_of_state l.states) l.number

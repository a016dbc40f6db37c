use Rattle.std.proofs.Common.{◌≡◌, map, drop}
use Rattle.node_elements.specs.ExpansionOrigins.{initial_number, piece_of_state}
use Rattle.node_elements.proofs.expansion.behind.initial_number.Given as goal

abbrev pub invariant-loop-state : goal.invariant-loop-state
invariant-loop-state l =
    initial_number (map piece_of_state (drop l.state-index l.states)) l.here ≡ initial_number (map piece_of_state l.states) l.fn.at

use Rattle.std.proofs.Common.{◌≡◌, map, drop}
use Rattle.abort_expansion.specs.Expansion.{piece_of_state, initial_number}
use Rattle.abort_expansion.proofs.counting.initial_number.Given as goal

abbrev pub invariant-loop-state : goal.invariant-loop-state
invariant-loop-state l =
    initial_number (map piece_of_state (drop l.state-index l.states)) l.next ≡ initial_number (map piece_of_state l.states) l.number

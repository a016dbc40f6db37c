use Rattle.std.proofs.Common.{◌≡◌, map, drop}
use Rattle.abort_expansion.specs.Expansion.{piece_of_state, initial_place}
use Rattle.abort_expansion.proofs.regions.initial_place.Given as goal

abbrev pub invariant-loop-state : goal.invariant-loop-state
invariant-loop-state l =
    initial_place (map piece_of_state (drop l.state-index l.states)) l.around l.place ≡ initial_place (map piece_of_state l.states) l.around l.begin

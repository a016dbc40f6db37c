use Rattle.std.proofs.Common.{◌≡◌, ◌++◌, ◌+◌, map, drop}
use Rattle.abort_expansion.specs.Expansion.{piece_of_state, places, widths}
use Rattle.abort_expansion.proofs.regions.put_places.Given as goal

abbrev pub invariant-loop-state : goal.invariant-loop-state
invariant-loop-state l = record {
  placed : l.made ++ places (map piece_of_state (drop l.state-index l.states)) l.around l.place
      ≡ l.fn.made ++ places (map piece_of_state l.states) l.around l.begin;
  wide : l.place + widths (map piece_of_state (drop l.state-index l.states)) l.around ≡ l.begin + widths (map piece_of_state l.states) l.around;
}

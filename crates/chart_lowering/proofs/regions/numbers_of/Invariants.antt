use Rattle.std.proofs.Common.{◌≡◌, ◌++◌, ◌+◌, map, drop}
use Rattle.chart_lowering.specs.Lowering.{labels_in_initial, labels_in_states, numbers, piece_of_state}
use Rattle.chart_lowering.proofs.regions.numbers_of.Given as goal

abbrev pub invariant-loop-state : goal.invariant-loop-state
invariant-loop-state l = record {
  numbered : l.numbers ++ numbers (map piece_of_state (drop l.state-index l.states)) l.first l.next ≡
      numbers (map piece_of_state l.states) l.first (l.first + labels_in_initial (map piece_of_state l.states));
  ends : l.end + labels_in_states (map piece_of_state (drop l.state-index l.states)) ≡
      l.first + labels_in_states (map piece_of_state l.states);
}

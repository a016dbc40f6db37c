use Rattle.std.proofs.Common.{◌≡◌, ◌+◌, map, drop}
use Rattle.chart_lowering.specs.Lowering.{labels_in_initial, piece_of_state}
use Rattle.chart_lowering.proofs.counting.labels_in_initial.Given as goal

abbrev pub invariant-loop-state : goal.invariant-loop-state
invariant-loop-state l =
    l.labels + labels_in_initial (map piece_of_state (drop l.state-index l.states)) ≡ labels_in_initial (map piece_of_state l.states)

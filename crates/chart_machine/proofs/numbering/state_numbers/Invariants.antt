use Rattle.std.proofs.Common.{◌≡◌, ◌++◌, map, drop}
use Rattle.chart_machine.specs.Table.{subtree_of_state, state_numbers}
use Rattle.chart_machine.proofs.numbering.state_numbers.Given as goal

abbrev pub invariant-loop-state : goal.invariant-loop-state
invariant-loop-state l =
    l.numbers ++ state_numbers (map subtree_of_state (drop l.state-index l.states)) l.next ≡ state_numbers (map subtree_of_state l.states) l.from

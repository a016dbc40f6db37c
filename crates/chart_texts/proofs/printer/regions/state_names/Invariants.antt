use Rattle.std.proofs.Common.{◌≡◌, ◌++◌, drop, map}
use Rattle.chart_texts.specs.Layout.{names_of, piece_of_state}
use Rattle.chart_texts.proofs.printer.regions.state_names.Given as goal

abbrev pub invariant-loop-state : goal.invariant-loop-state
invariant-loop-state l =
    l.names.items ++ names_of (map (piece_of_state l.variables) (drop l.state-index l.states)) ≡
    names_of (map (piece_of_state l.variables) l.states)

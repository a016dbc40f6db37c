use Rattle.std.proofs.Common.{◌≡◌, ◌++◌, map, drop}
use Rattle.sc_text.specs.Flaws.{variable_names}
use Rattle.chart_reader.specs.Flaws.{state_names}
use Rattle.chart_reader.specs.Resolved.{transition_of}
use Rattle.chart_reader.proofs.transitions.put_transitions.Given as goal

abbrev pub invariant-loop-text : goal.invariant-loop-text
invariant-loop-text l =
    l.made ++ map (transition_of (variable_names l.scope.variables.now) (state_names l.states.states.now)) (drop l.text-index l.texts)
    ≡ l.fn.made ++ map (transition_of (variable_names l.scope.variables.now) (state_names l.states.states.now)) l.texts

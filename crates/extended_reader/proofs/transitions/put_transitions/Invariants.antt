use Rattle.std.proofs.Common.{◌≡◌, ◌++◌, drop}
use Rattle.sc_text.specs.Flaws.{variable_names}
use Rattle.chart_reader.specs.Flaws.{state_names}
use Rattle.extended_reader.specs.Inside.{rows_in}
use Rattle.extended_reader.specs.Resolved.{all_transitions, behind_transitions}
use Rattle.extended_reader.proofs.transitions.put_transitions.Given as goal

abbrev pub invariant-loop-text : goal.invariant-loop-text
invariant-loop-text l =
    (l.made ++ all_transitions (variable_names l.scope.variables.now) (state_names l.states.states.now) (rows_in l.rows) (drop l.text-index l.texts)
    ≡ l.fn.made ++ all_transitions (variable_names l.scope.variables.now) (state_names l.states.states.now) (rows_in l.fn.rows) l.texts)
    × (behind_transitions (rows_in l.rows) (drop l.text-index l.texts) ≡ behind_transitions (rows_in l.fn.rows) l.texts)

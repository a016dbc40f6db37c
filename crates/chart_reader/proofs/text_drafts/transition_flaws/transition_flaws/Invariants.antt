use Rattle.std.proofs.Common.{◌≡◌, false, drop}
use Rattle.sc_text.specs.Told.{told_behind}
use Rattle.chart_reader.specs.Flaws.{transition_flaws}
use Rattle.chart_reader.proofs.text_drafts.transition_flaws.transition_flaws.Given as goal

abbrev pub invariant-loop-at : goal.invariant-loop-at
invariant-loop-at l =
    told_behind l.found (transition_flaws l.scope.variables.now l.states.names l.is_superstate l.is_behind_join l.at (drop l.at l.transitions))
    ≡ told_behind l.fn.found (transition_flaws l.scope.variables.now l.states.names l.is_superstate false 0 l.transitions)

use Rattle.std.proofs.Common.{◌≡◌, drop}
use Rattle.sc_text.specs.Told.{told_behind}
use Rattle.chart_reader.specs.Flaws.{effect_flaws}
use Rattle.chart_reader.proofs.text_drafts.transition_flaws.effect_flaws.Given as goal

abbrev pub invariant-loop-at : goal.invariant-loop-at
invariant-loop-at l =
    told_behind l.found (effect_flaws l.scope.variables.now l.at (drop l.at l.effects))
    ≡ told_behind l.fn.found (effect_flaws l.scope.variables.now 0 l.effects)

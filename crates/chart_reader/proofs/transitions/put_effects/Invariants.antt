use Rattle.std.proofs.Common.{◌≡◌, ◌++◌, map, drop}
use Rattle.sc_text.specs.Flaws.{variable_names}
use Rattle.chart_reader.specs.Resolved.{effect_of}
use Rattle.chart_reader.proofs.transitions.put_effects.Given as goal

abbrev pub invariant-loop-text : goal.invariant-loop-text
invariant-loop-text l =
    l.made ++ map (effect_of (variable_names l.scope.variables.now)) (drop l.text-index l.texts)
    ≡ l.fn.made ++ map (effect_of (variable_names l.scope.variables.now)) l.texts

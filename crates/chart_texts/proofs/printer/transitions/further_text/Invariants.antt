use Rattle.std.proofs.Common.{◌≡◌, ◌++◌, drop, string_bytes}
use Rattle.chart_texts.specs.Layout.{further_text}
use Rattle.chart_texts.proofs.printer.transitions.further_text.Given as goal

abbrev pub invariant-loop-effect : goal.invariant-loop-effect
invariant-loop-effect l =
    string_bytes l.text ++ further_text l.variables (drop l.effect-index l.effects) ≡ further_text l.variables l.effects

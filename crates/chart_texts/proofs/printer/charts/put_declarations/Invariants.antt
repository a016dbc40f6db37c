use Rattle.std.proofs.Common.{◌≡◌, ◌++◌, drop, string_bytes}
use Rattle.chart_texts.specs.Layout.{declarations_text}
use Rattle.chart_texts.proofs.printer.charts.put_declarations.Given as goal

abbrev pub invariant-loop-variable : goal.invariant-loop-variable
invariant-loop-variable l =
    string_bytes l.text ++ declarations_text (drop l.variable-index l.variables) l.margin ≡
    string_bytes l.initial.text ++ declarations_text l.variables l.margin

use Rattle.std.proofs.Common.{◌≡◌, ◌++◌, drop, map}
use Rattle.chart_texts.specs.Renaming.{shown_variable}
use Rattle.chart_texts.proofs.printer.renaming.shown_variables.Given as goal

abbrev pub invariant-loop-variable : goal.invariant-loop-variable
invariant-loop-variable l =
    l.all ++ map (shown_variable l.word) (drop l.variable-index l.variables) ≡ map (shown_variable l.word) l.variables

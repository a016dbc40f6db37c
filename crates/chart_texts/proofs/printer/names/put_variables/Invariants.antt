use Rattle.std.proofs.Common.{◌≡◌, ◌++◌, drop, map}
use Rattle.chart_texts.specs.Renaming.{rival, rivals_in}
use Rattle.chart_texts.proofs.printer.names.put_variables.Given as goal

abbrev pub invariant-loop-variable : goal.invariant-loop-variable
invariant-loop-variable l =
    l.names.items ++ rivals_in (map (λ v. rival v.name) (drop l.variable-index l.variables)) ≡
    l.initial.names.items ++ rivals_in (map (λ v. rival v.name) l.variables)

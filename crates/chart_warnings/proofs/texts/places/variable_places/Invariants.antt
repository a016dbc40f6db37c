use Rattle.std.proofs.Common.{◌≡◌, ◌++◌, drop, map}
use Rattle.chart_warnings.proofs.texts.places.variable_places.Given as goal

abbrev pub invariant-loop-variable : goal.invariant-loop-variable
invariant-loop-variable l = l.places ++ map (λ v. v.named.at) (drop l.variable-index l.variables) ≡ map (λ v. v.named.at) l.variables

use Rattle.std.proofs.Common.{◌≡◌, ◌++◌, drop}
use Rattle.core_charts.specs.Rules.{kinds_of}
use Rattle.core_charts.proofs.rules.kinds_of.Given as goal

abbrev pub invariant-loop-variable : goal.invariant-loop-variable
invariant-loop-variable l = l.kinds.items ++ kinds_of (drop l.variable-index l.variables) ≡ kinds_of l.variables

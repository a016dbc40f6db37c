use Rattle.std.proofs.Common.{◌≡◌, ◌++◌, drop}
use Rattle.sc_text.specs.Flaws.{variable_names}
use Rattle.sc_text.proofs.drafts.scope.variable_names.Given as goal

abbrev pub invariant-loop-variable : goal.invariant-loop-variable
invariant-loop-variable l = l.names ++ variable_names (drop l.variable-index l.variables) ≡ variable_names l.variables

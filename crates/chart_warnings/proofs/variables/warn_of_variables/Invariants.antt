use Rattle.std.proofs.Common.{◌≡◌, ◌++◌, drop}
use Rattle.chart_warnings.specs.Names.{within}
use Rattle.chart_warnings.specs.Warnings.{of_variables}
use Rattle.chart_warnings.proofs.variables.warn_of_variables.Given as goal

abbrev pub invariant-loop-number : goal.invariant-loop-number
invariant-loop-number l =
    l.warnings ++ of_variables (within l.regions) l.number (drop l.number l.variables) ≡
    l.fn.warnings ++ of_variables (within l.regions) 0 l.variables

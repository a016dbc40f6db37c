use Rattle.std.proofs.Common.{◌≡◌, ◌++◌, drop}
use Rattle.chart_reduction.specs.Registers.{before_variables}
use Rattle.chart_reduction.proofs.values.registers.put_before_variables.Given as goal

abbrev pub invariant-loop-x : goal.invariant-loop-x
invariant-loop-x l =
    l.made ++ before_variables l.variables l.number (drop l.x-index l.befores) ≡ l.fn.made ++ before_variables l.variables 1 l.befores

use Rattle.std.proofs.Common.{◌≡◌, ◌++◌, drop}
use Rattle.chart_reduction.specs.Registers.{registers}
use Rattle.chart_reduction.proofs.values.registers.put_register_variables.Given as goal

abbrev pub invariant-loop-x : goal.invariant-loop-x
invariant-loop-x l =
    l.made ++ registers l.variables l.number (drop l.x-index l.befores) ≡ l.fn.made ++ registers l.variables 1 l.befores

use Rattle.std.proofs.Common.{◌≡◌, ◌++◌, drop}
use Rattle.chart_reduction.specs.Registers.{storing}
use Rattle.chart_reduction.proofs.values.registers.put_storing.Given as goal

abbrev pub invariant-loop-x : goal.invariant-loop-x
invariant-loop-x l =
    l.made ++ storing l.register (drop l.x-index l.befores) ≡ l.fn.made ++ storing l.first l.befores

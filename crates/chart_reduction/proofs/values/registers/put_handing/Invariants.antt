use Rattle.std.proofs.Common.{◌≡◌, ◌++◌, drop}
use Rattle.chart_reduction.specs.Registers.{handing}
use Rattle.chart_reduction.proofs.values.registers.put_handing.Given as goal

abbrev pub invariant-loop : goal.invariant-loop
invariant-loop l =
    l.made ++ handing l.before l.register (drop l.index l.befores) ≡ l.fn.made ++ handing l.first l.registers l.befores

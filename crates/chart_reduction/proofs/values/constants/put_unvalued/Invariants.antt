use Rattle.std.proofs.Common.{◌≡◌, ◌++◌, drop}
use Rattle.chart_reduction.specs.Constants.{unvalued}
use Rattle.chart_reduction.proofs.values.constants.put_unvalued.Given as goal

abbrev pub invariant-loop : goal.invariant-loop
invariant-loop g l =
    l.made ++ unvalued (drop l.index l.items) ≡ l.fn.made ++ unvalued l.items

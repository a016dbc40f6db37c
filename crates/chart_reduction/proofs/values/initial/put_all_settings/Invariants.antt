use Rattle.std.proofs.Common.{◌≡◌, ◌++◌, drop}
use Rattle.chart_reduction.specs.Initial.{settings}
use Rattle.chart_reduction.proofs.values.initial.put_all_settings.Given as goal

abbrev pub invariant-loop-x : goal.invariant-loop-x
invariant-loop-x l =
    l.made ++ settings l.x (drop l.x l.variables) ≡ l.fn.made ++ settings 0 l.variables

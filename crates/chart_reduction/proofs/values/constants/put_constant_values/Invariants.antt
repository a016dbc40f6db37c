use Rattle.std.proofs.Common.{◌≡◌, ◌++◌, [], drop}
use Rattle.chart_reduction.specs.Constants.{named_values}
use Rattle.chart_reduction.proofs.values.constants.put_constant_values.Given as goal

abbrev pub invariant-loop-constant : goal.invariant-loop-constant
invariant-loop-constant l =
    l.made ++ named_values [] [] (drop l.constant-index l.constants) ≡ l.fn.made ++ named_values [] [] l.constants

use Rattle.std.proofs.Common.{◌≡◌, ◌++◌, map, drop}
use Rattle.chart_lowering.specs.Lowering.{label_name}
use Rattle.chart_lowering.proofs.regions.targets_of.Given as goal

abbrev pub invariant-loop-number : goal.invariant-loop-number
invariant-loop-number l = l.states ++ map label_name (drop l.number-index l.number-items) ≡ map label_name l.numbers.states

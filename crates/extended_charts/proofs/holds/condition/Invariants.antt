use Rattle.std.proofs.Common.{◌≡◌, drop}
use Rattle.extended_charts.specs.Holds.{condition}
use Rattle.extended_charts.proofs.holds.condition.Given as goal

abbrev pub invariant-loop-transition : goal.invariant-loop-transition
invariant-loop-transition l =
    condition (drop l.transition-index l.transitions) ≡ condition l.transitions

use Rattle.std.proofs.Common.{◌≡◌, ◌++◌, drop}
use Rattle.core_charts.proofs.copies.copied_transitions.Given as goal

abbrev pub invariant-loop-transition : goal.invariant-loop-transition
invariant-loop-transition l = l.copy.items ++ drop l.transition-index l.transitions ≡ l.transitions

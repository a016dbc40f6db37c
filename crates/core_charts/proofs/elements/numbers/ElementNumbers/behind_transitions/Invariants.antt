use Rattle.std.proofs.Common.{◌≡◌, drop}
use Rattle.core_charts.specs.Numbers.{behind_transitions}
use Rattle.core_charts.proofs.elements.numbers.ElementNumbers.behind_transitions.Given as goal

abbrev pub invariant-loop-transition : goal.invariant-loop-transition
invariant-loop-transition l = behind_transitions (drop l.transition-index l.transitions) l.here ≡ behind_transitions l.transitions l.fn.self

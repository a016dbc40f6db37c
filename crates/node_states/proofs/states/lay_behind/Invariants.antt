use Rattle.std.proofs.Common.{◌≡◌, drop}
use Rattle.core_charts.specs.Tests.{terminations}
use Rattle.node_states.proofs.states.lay_behind.Given as goal

abbrev pub invariant-loop-transition : goal.invariant-loop-transition
invariant-loop-transition l = (l.nodes ≡ l.fn.nodes) × (terminations (drop l.transition-index l.transitions) ≡ terminations l.transitions)

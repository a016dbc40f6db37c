use Rattle.std.proofs.Common.{◌≡◌, ◌++◌, drop}
use Rattle.core_charts.specs.Tests.{at_once}
use Rattle.node_states.specs.Nodes.{tests}
use Rattle.node_states.proofs.transitions.lay_immediate_tests.Given as goal

abbrev pub invariant-loop-transition : goal.invariant-loop-transition
invariant-loop-transition l = l.nodes ++ tests (at_once (drop l.transition-index l.transitions)) ≡ l.fn.nodes ++ tests (at_once l.transitions)

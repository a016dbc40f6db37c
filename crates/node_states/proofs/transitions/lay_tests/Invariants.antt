use Rattle.std.proofs.Common.{◌≡◌, ◌++◌, drop}
use Rattle.node_states.specs.Nodes.{tests}
use Rattle.node_states.proofs.transitions.lay_tests.Given as goal

abbrev pub invariant-loop-transition : goal.invariant-loop-transition
invariant-loop-transition l = l.nodes ++ tests (drop l.transition-index l.transitions) ≡ l.fn.nodes ++ tests l.transitions

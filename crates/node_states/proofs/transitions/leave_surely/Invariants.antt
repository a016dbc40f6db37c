use Rattle.std.proofs.Common.{◌≡◌, drop}
use Rattle.core_charts.specs.Tests.{at_once}
use Rattle.chart_lowering.specs.Lowering.{leaves_surely}
use Rattle.node_states.proofs.transitions.leave_surely.Given as goal

abbrev pub invariant-loop-transition : goal.invariant-loop-transition
invariant-loop-transition l = leaves_surely (at_once (drop l.transition-index l.transitions)) ≡ leaves_surely (at_once l.transitions)

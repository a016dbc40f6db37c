use Rattle.std.proofs.Common.{◌≡◌, ◌++◌, drop}
use Rattle.core_charts.specs.Tests.{at_once}
use Rattle.chart_lowering.specs.Lowering.{transitions}
use Rattle.chart_lowering.proofs.transitions.immediate_transitions.Given as goal

abbrev pub invariant-loop-transition : goal.invariant-loop-transition
invariant-loop-transition l =
    l.text ++ transitions l.at (at_once (drop l.transition-index l.all)) l.fn.rest ≡ transitions l.at (at_once l.all) l.fn.rest

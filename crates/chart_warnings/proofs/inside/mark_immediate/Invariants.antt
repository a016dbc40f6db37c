use Rattle.std.proofs.Common.{◌≡◌, drop}
use Rattle.core_charts.specs.Tests.{at_once}
use Rattle.chart_warnings.specs.Inside.Marks.{all_by, marked}
use Rattle.chart_warnings.proofs.inside.mark_immediate.Given as goal

abbrev pub invariant-loop-transition : goal.invariant-loop-transition
invariant-loop-transition l =
    marked (all_by l.way (at_once (drop l.transition-index l.transitions))) l.marks.items ≡
    marked (all_by l.way (at_once l.transitions)) l.fn.marks.items

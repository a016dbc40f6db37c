use Rattle.std.proofs.Common.{◌≡◌, drop}
use Rattle.chart_warnings.specs.Inside.Marks.{all_by, marked}
use Rattle.chart_warnings.proofs.names.mark_transitions.Given as goal

abbrev pub invariant-loop-transition : goal.invariant-loop-transition
invariant-loop-transition l =
    marked (all_by l.way (drop l.transition-index l.transitions)) l.marks.items ≡ marked (all_by l.way l.transitions) l.fn.marks.items

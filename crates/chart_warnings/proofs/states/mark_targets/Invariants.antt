use Rattle.std.proofs.Common.{◌≡◌, drop}
use Rattle.chart_warnings.specs.Warnings.{targets_besides}
use Rattle.chart_warnings.specs.Inside.Marks.{marked}
use Rattle.chart_warnings.proofs.states.mark_targets.Given as goal

abbrev pub invariant-loop-transition : goal.invariant-loop-transition
invariant-loop-transition l =
    marked (targets_besides l.place (drop l.transition-index l.transitions)) l.marks.items ≡
    marked (targets_besides l.place l.transitions) l.fn.marks.items

use Rattle.std.proofs.Common.{◌≡◌, ◌-◌, Some, length}
use Rattle.chart_warnings.specs.Warnings.{on_the_way}
use Rattle.chart_warnings.specs.Inside.Marks.{all_by, marked}
use Rattle.chart_warnings.proofs.inside.mark_target.Given as goal

abbrev pub invariant-loop-step : goal.invariant-loop-step
invariant-loop-step l =
    marked (all_by l.way (on_the_way (length l.states - l._step) l.states l.place)) l.marks.items ≡
    marked (all_by l.way (on_the_way (length l.states) l.states (Some l.target))) l.fn.marks.items

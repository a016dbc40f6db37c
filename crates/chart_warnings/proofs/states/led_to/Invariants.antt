use Rattle.std.proofs.Common.{◌≡◌, false, length, drop, replicate}
use Rattle.chart_warnings.specs.Warnings.{led_to}
use Rattle.chart_warnings.specs.Inside.Marks.{marked}
use Rattle.chart_warnings.proofs.states.led_to.Given as goal

abbrev pub invariant-loop-place : goal.invariant-loop-place
invariant-loop-place l =
    marked (led_to l.place (drop l.place l.states)) l.marks.items ≡ marked (led_to 0 l.states) (replicate (length l.states) false)

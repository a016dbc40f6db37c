use Rattle.std.proofs.Common.{◌≡◌, ◌++◌, drop}
use Rattle.chart_reduction.specs.Exits.{led_out}
use Rattle.chart_reduction.proofs.entries.departures.put_led_out.Given as goal

abbrev pub invariant-loop-transition : goal.invariant-loop-transition
invariant-loop-transition l =
    l.made ++ led_out l.place l.leavings (drop l.transition-index l.transitions) ≡ l.fn.made ++ led_out l.first l.leavings l.transitions

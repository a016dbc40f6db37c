use Rattle.std.proofs.Common.{◌≡◌, ◌++◌, map, drop}
use Rattle.chart_reduction.specs.Entry.{led}
use Rattle.chart_reduction.proofs.entries.entry.put_all_led.Given as goal

abbrev pub invariant-loop-transition : goal.invariant-loop-transition
invariant-loop-transition l =
    l.made ++ map (led l.at) (drop l.transition-index l.transitions) ≡ l.fn.made ++ map (led l.at) l.transitions

use Rattle.std.proofs.Common.{◌≡◌, ◌++◌, drop}
use Rattle.chart_reduction.specs.Exits.{ways_out}
use Rattle.chart_reduction.proofs.entries.departures.put_ways_out.Given as goal

abbrev pub invariant-loop-transition : goal.invariant-loop-transition
invariant-loop-transition l =
    l.made ++ ways_out l.place l.leavings l.own (drop l.transition-index l.transitions) ≡ l.fn.made ++ ways_out l.first l.leavings l.own l.transitions

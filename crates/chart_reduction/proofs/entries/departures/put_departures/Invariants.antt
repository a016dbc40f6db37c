use Rattle.std.proofs.Common.{◌≡◌, ◌++◌, drop}
use Rattle.chart_reduction.specs.Exits.{departures}
use Rattle.chart_reduction.proofs.entries.departures.put_departures.Given as goal

abbrev pub invariant-loop-exit : goal.invariant-loop-exit
invariant-loop-exit l =
    l.made ++ departures l.variable l.number l.target (drop l.exit-index l.exits) ≡ l.fn.made ++ departures l.variable 1 l.target l.exits

use Rattle.std.proofs.Common.{◌≡◌, ◌++◌, drop}
use Rattle.chart_reduction.specs.Exits.{way_out}
use Rattle.chart_reduction.proofs.entries.departures.put_way_out.Given as goal

abbrev pub invariant-loop-leaving : goal.invariant-loop-leaving
invariant-loop-leaving l =
    l.made ++ way_out l.place (drop l.leaving-index l.leavings) (l.own ++ l.transition.effects) l.transition.target
    ≡ l.fn.made ++ way_out l.first l.leavings (l.own ++ l.transition.effects) l.transition.target

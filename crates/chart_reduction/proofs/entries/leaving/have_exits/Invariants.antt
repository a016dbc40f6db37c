use Rattle.std.proofs.Common.{◌≡◌, map, drop}
use Rattle.extended_charts.specs.Making.{has_some}
use Rattle.chart_reduction.specs.Exits.{exits_of, left_state}
use Rattle.chart_reduction.proofs.entries.leaving.have_exits.Given as goal

abbrev pub invariant-loop-state : goal.invariant-loop-state
invariant-loop-state l =
    has_some (exits_of (map left_state (drop l.state-index l.states))) ≡ has_some (exits_of (map left_state l.states))

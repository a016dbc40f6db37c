use Rattle.std.proofs.Common.{◌≡◌, ◌++◌, map, drop}
use Rattle.core_charts.specs.Elements.{row}
use Rattle.chart_reduction.specs.Rows.{transitions_in_region, transitions_in_state}
use Rattle.chart_reduction.proofs.rows.+transitions.Given as goal

abbrev pub invariant-transitions_in_regions-loop-region : goal.invariant-transitions_in_regions-loop-region
invariant-transitions_in_regions-loop-region l =
    l.made ++ row (map transitions_in_region (drop l.region-index l.regions)) ≡ row (map transitions_in_region l.regions)

abbrev pub invariant-transitions_in_states-loop-state : goal.invariant-transitions_in_states-loop-state
invariant-transitions_in_states-loop-state l =
    l.made ++ row (map transitions_in_state (drop l.state-index l.states)) ≡ row (map transitions_in_state l.states)

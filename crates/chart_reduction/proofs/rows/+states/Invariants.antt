use Rattle.std.proofs.Common.{◌≡◌, ◌++◌, map, drop}
use Rattle.core_charts.specs.Elements.{row}
use Rattle.chart_reduction.specs.Rows.{states_in_region, states_in_state}
use Rattle.chart_reduction.proofs.rows.+states.Given as goal

abbrev pub invariant-states_in_regions-loop-region : goal.invariant-states_in_regions-loop-region
invariant-states_in_regions-loop-region l =
    l.made ++ row (map states_in_region (drop l.region-index l.regions)) ≡ row (map states_in_region l.regions)

abbrev pub invariant-states_in_states-loop-state : goal.invariant-states_in_states-loop-state
invariant-states_in_states-loop-state l =
    l.made ++ row (map states_in_state (drop l.state-index l.states)) ≡ row (map states_in_state l.states)

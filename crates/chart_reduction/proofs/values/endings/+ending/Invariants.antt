use Rattle.std.proofs.Common.{◌≡◌, ◌++◌, map, drop}
use Rattle.chart_reduction.specs.Endings.{all_regions, all_states, ending_in_region, ending_in_state}
use Rattle.chart_reduction.proofs.values.endings.+ending.Given as goal

abbrev pub invariant-put_regions-loop-region : goal.invariant-put_regions-loop-region
invariant-put_regions-loop-region l =
    l.made ++ all_regions l.x (map ending_in_region (drop l.region-index l.regions))
    ≡ l.fn.made ++ all_regions l.first (map ending_in_region l.regions)

abbrev pub invariant-put_states-loop-state : goal.invariant-put_states-loop-state
invariant-put_states-loop-state l =
    l.made ++ all_states l.x (map ending_in_state (drop l.state-index l.states))
    ≡ l.fn.made ++ all_states l.first (map ending_in_state l.states)

use Rattle.std.proofs.Common.{◌≡◌, ◌++◌, map, drop}
use Rattle.chart_reduction.specs.Clocks.{all_regions, all_states, timed_region, timed_state}
use Rattle.chart_reduction.proofs.values.clocks.+timed.Given as goal

abbrev pub invariant-put_regions-loop-region : goal.invariant-put_regions-loop-region
invariant-put_regions-loop-region l =
    l.made ++ all_regions l.now l.at (map timed_region (drop l.region-index l.regions))
    ≡ l.fn.made ++ all_regions l.now l.first (map timed_region l.regions)

abbrev pub invariant-put_states-loop-state : goal.invariant-put_states-loop-state
invariant-put_states-loop-state l =
    l.made ++ all_states l.now l.at (map timed_state (drop l.state-index l.states))
    ≡ l.fn.made ++ all_states l.now l.first (map timed_state l.states)

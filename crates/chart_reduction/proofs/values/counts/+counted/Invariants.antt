use Rattle.std.proofs.Common.{◌≡◌, ◌++◌, map, drop}
use Rattle.chart_reduction.specs.Counts.{counted_region, counted_state}
use Rattle.chart_reduction.proofs.values.counts.+counted.Given as goal

abbrev pub invariant-put_regions-loop-region : goal.invariant-put_regions-loop-region
invariant-put_regions-loop-region l =
    l.made ++ map (counted_region l.first l.counts) (drop l.region-index l.regions)
    ≡ l.fn.made ++ map (counted_region l.first l.counts) l.regions

abbrev pub invariant-put_states-loop-state : goal.invariant-put_states-loop-state
invariant-put_states-loop-state l =
    l.made ++ map (counted_state l.first l.counts) (drop l.state-index l.states)
    ≡ l.fn.made ++ map (counted_state l.first l.counts) l.states

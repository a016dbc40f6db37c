use Rattle.std.proofs.Common.{◌≡◌, ◌++◌, map, drop}
use Rattle.chart_reduction.specs.Exits.{leavings_in, leavings_among, left_region, left_state}
use Rattle.chart_reduction.proofs.entries.leaving.+leaving.Given as goal

abbrev pub invariant-put_leavings_in-loop-region : goal.invariant-put_leavings_in-loop-region
invariant-put_leavings_in-loop-region l =
    l.made ++ leavings_in l.x (map left_region (drop l.region-index l.regions))
    ≡ l.fn.made ++ leavings_in l.first (map left_region l.regions)

abbrev pub invariant-put_leavings_among-loop-state : goal.invariant-put_leavings_among-loop-state
invariant-put_leavings_among-loop-state l =
    l.made ++ leavings_among l.x (map left_state (drop l.state-index l.states))
    ≡ l.fn.made ++ leavings_among l.first (map left_state l.states)

use Rattle.std.proofs.Common.{◌≡◌, ◌+◌, map, drop}
use Rattle.std.specs.Prelude.{fold}
use Rattle.chart_reduction.specs.Clocks.{TimedRegion, TimedState, clocks_in, timed_region, timed_state}
use Rattle.chart_reduction.proofs.values.clocks.+counting.Given as goal

abbrev pub invariant-clocks_in-loop-region : goal.invariant-clocks_in-loop-region
invariant-clocks_in-loop-region l =
    fold (λ a (r : TimedRegion). a + r.clocks) l.count (map timed_region (drop l.region-index l.regions)) ≡ clocks_in (map timed_region l.regions)

abbrev pub invariant-region_clocks-loop-state : goal.invariant-region_clocks-loop-state
invariant-region_clocks-loop-state l =
    fold (λ a (s : TimedState). a + s.clocks) l.count (map timed_state (drop l.state-index l.state-items)) ≡ (timed_region l.region).clocks

use Rattle.std.proofs.Common.{◌≡◌, ◌+◌, map, drop}
use Rattle.std.specs.Prelude.{fold}
use Rattle.chart_reduction.specs.Endings.{EndingRegion, EndingState, endings_in, ending_in_region, ending_in_state}
use Rattle.chart_reduction.proofs.values.endings.+counting.Given as goal

abbrev pub invariant-endings_in-loop-region : goal.invariant-endings_in-loop-region
invariant-endings_in-loop-region l =
    fold (λ a (r : EndingRegion). a + r.endings) l.count (map ending_in_region (drop l.region-index l.regions)) ≡ endings_in (map ending_in_region l.regions)

abbrev pub invariant-region_endings-loop-state : goal.invariant-region_endings-loop-state
invariant-region_endings-loop-state l =
    fold (λ a (s : EndingState). a + s.endings) l.count (map ending_in_state (drop l.state-index l.state-items)) ≡ (ending_in_region l.region).endings

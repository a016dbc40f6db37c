use Rattle.std.proofs.Common.{◌≡◌, ◌+◌, map, drop}
use Rattle.std.specs.Prelude.{fold}
use Rattle.chart_reduction.specs.Exits.{LeftRegion, all_inside, left_region}
use Rattle.chart_reduction.proofs.entries.exits.all_inside.Given as goal

abbrev pub invariant-loop-region : goal.invariant-loop-region
invariant-loop-region l =
    fold (λ a (r : LeftRegion). a + r.inside) l.count (map left_region (drop l.region-index l.regions)) ≡ all_inside (map left_region l.regions)

use Rattle.std.proofs.Common.{◌≡◌, ◌++◌, map, drop}
use Rattle.chart_reduction.specs.Exits.{outer_regions, left_region}
use Rattle.chart_reduction.proofs.entries.exits.put_outer_regions.Given as goal

abbrev pub invariant-loop-region : goal.invariant-loop-region
invariant-loop-region l =
    l.made ++ outer_regions l.x (map left_region (drop l.region-index l.regions)) ≡ l.fn.made ++ outer_regions l.first (map left_region l.regions)

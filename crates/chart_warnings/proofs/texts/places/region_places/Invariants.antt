use Rattle.std.proofs.Common.{◌≡◌, ◌++◌, drop, map}
use Rattle.chart_warnings.specs.Places.{of_region}
use Rattle.chart_warnings.proofs.texts.places.region_places.Given as goal

abbrev pub invariant-loop-region : goal.invariant-loop-region
invariant-loop-region l =
    l.places ++ map (λ r. r.at) (map of_region (drop l.region-index l.regions)) ≡ map (λ r. r.at) (map of_region l.regions)

use Rattle.std.proofs.Common.{◌≡◌, ◌++◌, map, drop}
use Rattle.core_charts.specs.declared.region.Region.TheViews.{out-Region}
use Rattle.core_charts.proofs.rules.region_names.Given as goal

abbrev pub invariant-loop-region : goal.invariant-loop-region
invariant-loop-region l = l.names.items ++ map (λ x. (out-Region x).name) (drop l.region-index l.regions) ≡ map (λ x. (out-Region x).name) l.regions

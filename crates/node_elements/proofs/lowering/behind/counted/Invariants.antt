use Rattle.std.proofs.Common.{◌≡◌, map, drop}
use Rattle.core_charts.specs.Numbers.{first}
use Rattle.node_elements.specs.LoweringOrigins.{behind_regions, piece_of_region}
use Rattle.node_elements.proofs.lowering.behind.counted.Given as goal

abbrev pub invariant-loop-region : goal.invariant-loop-region
invariant-loop-region l = behind_regions (map piece_of_region (drop l.region-index l.regions)) l.here ≡ behind_regions
    (map piece_of_region l.regions) first

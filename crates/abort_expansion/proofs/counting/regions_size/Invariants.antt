use Rattle.std.proofs.Common.{◌≡◌, ◌+◌, ◌<◌, ◌^◌, false, map, drop}
use Rattle.abort_expansion.specs.Pieces.{superstates_in, variables_in}
use Rattle.abort_expansion.specs.Expansion.{piece_of_region}
use Rattle.abort_expansion.proofs.counting.regions_size.Given as goal

abbrev pub invariant-loop-region : goal.invariant-loop-region
invariant-loop-region l = record {
  superstates : l.size.superstates + superstates_in (map piece_of_region (drop l.region-index l.regions)) ≡ superstates_in (map piece_of_region l.regions);
  variables : l.size.variables + variables_in false (map piece_of_region (drop l.region-index l.regions)) ≡ variables_in false (map piece_of_region l.regions);
  few : (l.size.superstates < 2 ^ 32) × (l.size.variables < 2 ^ 32);
}

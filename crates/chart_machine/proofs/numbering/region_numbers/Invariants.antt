use Rattle.std.proofs.Common.{◌≡◌, ◌++◌, map, drop}
use Rattle.chart_machine.specs.Table.{subtree_of_region, region_numbers}
use Rattle.chart_machine.proofs.numbering.region_numbers.Given as goal

abbrev pub invariant-loop-region : goal.invariant-loop-region
invariant-loop-region l =
    l.numbers ++ region_numbers (map subtree_of_region (drop l.region-index l.regions)) l.next ≡ region_numbers (map subtree_of_region l.regions) l.from

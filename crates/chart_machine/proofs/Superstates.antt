-- A state with regions is a superstate in the table too.
use Rattle.std.proofs.Common.{◌≡◌, List, [], ◌∷◌, map, refl}
use Rattle.core_charts.specs.declared.region.Region.{Region}
use Rattle.core_charts.specs.Rules.{has_regions}
use Rattle.chart_machine.specs.Table.{is_superstate, subtree_of_region}

pub superstate_alike : (regions : List Region) → has_regions regions ≡ is_superstate (map subtree_of_region regions)
superstate_alike [] = refl
superstate_alike (r ∷ regions) = refl

-- The path of each state of an extended chart, in the order of its text, as those of a chart's states are: the name of its
-- region and its own, with a full stop between; inside a superstate behind that one's path and a slash.
use Rattle.std.specs.Prelude.{ℕ, List, [], ◌∷◌, ◌++◌, map, codes}
use Rattle.core_charts.specs.Paths.{Paths, beside}
use Rattle.extended_charts.specs.declared.extended.ExtendedChart.{ExtendedChart}
use Rattle.extended_charts.specs.declared.extended.ExtendedRegion.{ExtendedRegion}
use Rattle.extended_charts.specs.declared.extended.ExtendedState.{ExtendedState}
use Rattle.extended_charts.specs.declared.extended.ExtendedRegion.TheOpen.{ExtendedRegion-F, ExtendedState-F}
use Rattle.extended_charts.specs.declared.extended.ExtendedRegion.TheFolds.{fold-ExtendedRegion, fold-ExtendedState}

-- a state, and those inside it
abbrev pub state_paths : ExtendedState-F Paths Paths → Paths
state_paths s before = (before ++ s.name) ∷ beside s.regions ((before ++ s.name) ++ codes "/")

-- the states of a region
abbrev pub region_paths : ExtendedRegion-F Paths Paths → Paths
region_paths r before = beside r.states ((before ++ r.name) ++ codes ".")

abbrev pub paths_of_region : ExtendedRegion → Paths
paths_of_region = fold-ExtendedRegion Paths Paths region_paths state_paths

abbrev pub paths_of_state : ExtendedState → Paths
paths_of_state = fold-ExtendedState Paths Paths region_paths state_paths

abbrev pub paths_of : ExtendedChart → List (List ℕ)
paths_of c = beside (map paths_of_region c.regions) []

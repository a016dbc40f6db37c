-- The path of each state of a chart, in the order of the states' numbers, which is that of the text: the name of its
-- region and its own, with a full stop between; inside a superstate behind that one's path and a slash, as
-- `Main.Running/Left.Belt`.
use Rattle.std.specs.Prelude.{ℕ, List, [], ◌∷◌, ◌++◌, map, codes}
use Rattle.core_charts.specs.declared.region.Region.{Region}
use Rattle.core_charts.specs.declared.region.Region.TheOpen.{Region-F, State-F}
use Rattle.core_charts.specs.declared.region.Region.TheFolds.{fold-Region, fold-State}
use Rattle.core_charts.specs.declared.region.State.{State}
use Rattle.core_charts.specs.Chart.{Chart}

-- of a piece of a chart the paths of its states, where this stands before them
abbrev pub Paths : Type 0
Paths = (before : List ℕ) → List (List ℕ)

-- of pieces side by side
abbrev pub beside : List Paths → Paths
beside [] before = []
beside (piece ∷ pieces) before = piece before ++ beside pieces before

-- a state, and those inside it
abbrev pub state_paths : State-F Paths Paths → Paths
state_paths s before = (before ++ s.name) ∷ beside s.regions ((before ++ s.name) ++ codes "/")

-- the states of a region
abbrev pub region_paths : Region-F Paths Paths → Paths
region_paths r before = beside r.states ((before ++ r.name) ++ codes ".")

abbrev pub paths_of_region : Region → Paths
paths_of_region = fold-Region Paths Paths region_paths state_paths

abbrev pub paths_of_state : State → Paths
paths_of_state = fold-State Paths Paths region_paths state_paths

abbrev pub paths_of : Chart → List (List ℕ)
paths_of c = beside (map paths_of_region c.regions) []

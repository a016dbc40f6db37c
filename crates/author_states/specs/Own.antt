-- The author's states in a chart that has others too: what is made adds nothing to a path, neither a state nor a region in
-- which it stands. So the own path of a state is the one that it has in the author's text.
use Rattle.std.specs.Prelude.{ℕ, zero, suc, ◌≡◌, Option, Some, None, List, [], ◌∷◌, ◌++◌, length, map, codes, if◌then◌else◌}
use Rattle.core_charts.specs.Paths.{Paths, beside}
use Rattle.extended_charts.specs.declared.extended.ExtendedChart.{ExtendedChart}
use Rattle.extended_charts.specs.declared.extended.ExtendedRegion.{ExtendedRegion}
use Rattle.extended_charts.specs.declared.extended.ExtendedState.{ExtendedState}
use Rattle.extended_charts.specs.declared.extended.ExtendedRegion.TheOpen.{ExtendedRegion-F, ExtendedState-F}
use Rattle.extended_charts.specs.declared.extended.ExtendedRegion.TheFolds.{fold-ExtendedRegion, fold-ExtendedState}
use Rattle.chart_reduction.specs.Reduction.{with_entry}
use Rattle.chart_reduction.specs.Rows.{rows_of}

-- of a state the own paths, by what stands before the regions around it, and before the states of its region
abbrev pub OwnPaths : Type 0
OwnPaths = (around before : List ℕ) → List (List ℕ)

abbrev pub among : List OwnPaths → OwnPaths
among [] around before = []
among (s ∷ states) around before = s around before ++ among states around before

-- of a state that is made those of the states in it, as if they stood beside it
abbrev pub state_own : ExtendedState-F Paths OwnPaths → OwnPaths
state_own s around before =
    if s.is_own then (before ++ s.name) ∷ beside s.regions ((before ++ s.name) ++ codes "/") else beside s.regions around

abbrev pub region_own : ExtendedRegion-F Paths OwnPaths → Paths
region_own r around = among r.states around ((around ++ r.name) ++ codes ".")

abbrev pub own_in_region : ExtendedRegion → Paths
own_in_region = fold-ExtendedRegion Paths OwnPaths region_own state_own

abbrev pub own_in_state : ExtendedState → OwnPaths
own_in_state = fold-ExtendedState Paths OwnPaths region_own state_own

abbrev pub own_paths : List ExtendedRegion → List (List ℕ)
own_paths regions = beside (map own_in_region regions) []

-- the numbers in a row in which some are missing
abbrev pub present : List (Option ℕ) → List ℕ
present [] = []
present (None ∷ row) = present row
present (Some n ∷ row) = n ∷ present row

-- so many numbers, from this one on
abbrev pub numbers_from : (first count : ℕ) → List ℕ
numbers_from n zero = []
numbers_from n (suc count) = n ∷ numbers_from (suc n) count

-- each state of the author's is one of the reduced chart's, in the order of his text and by its path there; and one alone stands
-- for it, in that order too
pub record AuthorsStay : Type 0 where
  pub stay : (c : ExtendedChart) → own_paths (with_entry c).regions ≡ own_paths c.regions
  pub each_once : (c : ExtendedChart) → present (rows_of (with_entry c).regions).states ≡ numbers_from 0 (length (own_paths c.regions))

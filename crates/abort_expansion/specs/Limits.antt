-- What a core chart must not pass: the variables of a program, and the regions of a superstate.
use Rattle.std.specs.Prelude.{ℕ, ◌≤◌, List, [], ◌∷◌, map, length, max}
use Rattle.core_charts.specs.declared.features.Features.TheVariants as features
use Rattle.core_charts.specs.declared.region.Region.TheOpen.{Region-F, State-F}
use Rattle.core_charts.specs.declared.region.Region.TheFolds.{fold-Region}
use Rattle.core_charts.specs.Chart.{Chart}
use Rattle.core_charts.specs.Rules.{region_limit}
use Rattle.abort_expansion.specs.Expansion.{IsExpandable, expanded}

abbrev pub greatest : List ℕ → ℕ
greatest [] = 0
greatest (n ∷ more) = max n (greatest more)

abbrev pub most_in_region : Region-F ℕ ℕ → ℕ
most_in_region r = greatest r.states

abbrev pub most_in_state : State-F ℕ ℕ → ℕ
most_in_state s = max (length s.regions) (greatest s.regions)

-- how many regions that superstate of a chart has that has most of them; the chart counts as one
abbrev pub most_regions : Chart → ℕ
most_regions c = max (length c.regions) (greatest (map (fold-Region ℕ ℕ most_in_region most_in_state) c.regions))

-- the core chart passes neither limit. No chart passes that of regions: a superstate of a text leaves room for its
-- monitor
pub record KeepsLimits (c : Chart) : Type 0 where
  pub variables : IsExpandable c
  pub regions : most_regions (expanded c) ≤ region_limit features.Core

-- The rows of what the expansion makes of a state, where they stand in a table.
use Rattle.std.proofs.Common.{◌≡◌, ℕ, Bool, List, map}
use Rattle.core_charts.specs.declared.region.Region.{Region}
use Rattle.core_charts.specs.declared.region.State.{State}
use Rattle.core_charts.specs.declared.region.Transition.{Transition}
use Rattle.core_charts.specs.declared.region.Region.TheViews.{roll-State}
use Rattle.core_charts.specs.declared.region.Region.TheFolds.{fold-roll-State}
use Rattle.chart_machine.specs.Table.{Subtree, region_subtree, state_subtree, subtree_of_region, subtree_of_state}

module _ (name : List ℕ) (begins ends : Bool) (regions : List Region) (all : List Transition) where
  abbrev pub rolled : State
  rolled = roll-State (record { name = name; is_initial = begins; is_final = ends; regions = regions; transitions = all })

  pub rolled_piece : subtree_of_state rolled ≡ state_subtree (record {
    name = name;
    is_initial = begins;
    is_final = ends;
    regions =
        map subtree_of_region regions;
    transitions = all;
  })
  rolled_piece = fold-roll-State Subtree Subtree region_subtree state_subtree (record
      { name = name; is_initial = begins; is_final = ends; regions = regions; transitions = all })

-- What private functions make.
use Rattle.std.specs.Prelude.{◌≡◌, Bool, List, ◌++◌, map}
use Rattle.core_charts.specs.declared.region.Region.TheViews.{out-State}
use Rattle.core_charts.specs.declared.region.State.{State}
use Rattle.core_charts.specs.declared.region.Transition.{Transition}
use Rattle.core_charts.specs.Tests.{is_strong, is_weak, is_join}
use Rattle.chart_machine.specs.declared.chosen.Choice.{Choice}
use Rattle.chart_machine.specs.declared.chosen.Choice.TheVariants as choice
use Rattle.chart_machine.specs.declared.standing.Move.{Move}
use Rattle.chart_machine.specs.declared.table.RegionRow.{RegionRow}
use Rattle.chart_machine.specs.declared.table.StateRow.{StateRow}
use Rattle.chart_machine.specs.declared.table.SubtreeRows.{SubtreeRows}
use Rattle.chart_machine.specs.declared.table.TablePosition.{TablePosition}
use Rattle.chart_machine.specs.Table.{entered_state, is_superstate, region_numbers, subtree_of_region, StatesRows}

-- whether a transition is of those that are tested
abbrev pub is_chosen : Choice → Transition → Bool
is_chosen choice.AtOnce = λ t. t.immediate
is_chosen choice.Strong = λ t. is_strong t.kind
is_chosen choice.Weak = λ t. is_weak t.kind
is_chosen choice.Join = λ t. is_join t.kind

-- what entering a state makes of regions, where entering its own regions makes this of them
abbrev pub entered_of : State → TablePosition → List Move → List Move
entered_of s at opened =
    entered_state (out-State s).is_final (is_superstate (map subtree_of_region (out-State s).regions)) at
    (out-State s).transitions opened

abbrev pub row_of : State → TablePosition → List Move → StateRow
row_of s at opened =
    record {
      holder = at.holder;
      regions = region_numbers (map subtree_of_region (out-State s).regions) at.region;
      transitions = (out-State s).transitions;
      entered = entered_of s at opened;
      opened = opened;
    }

-- rows, and rows of regions beside them, have behind them what states of a region give
pub record HaveStates (given : StatesRows) (old new : SubtreeRows) (others_old others_new : List RegionRow) : Type 0 where
  pub states : new.states ≡ old.states ++ given.states
  pub regions : new.regions ≡ old.regions ++ given.first
  pub others : others_new ≡ others_old ++ given.others
  pub entered : new.entered ≡ old.entered ++ given.entered

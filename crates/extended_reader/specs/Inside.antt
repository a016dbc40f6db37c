-- What private functions alone ask for and make: the rows that are left, what is put into a state whose name and marks stand
-- already, and into a chart that has a name alone. It is proved, and no public contract rests on what it means.
pub mod Comments
pub mod Modules
pub mod TextDrafts
use Rattle.std.specs.Prelude.{ℕ, List, ◌++◌, map, codes}
use Rattle.chart_reader.specs.declared.text_drafts.draft.DraftRegion.TheViews.{out-DraftState}
use Rattle.chart_reader.specs.declared.text_drafts.draft.DraftState.{DraftState}
use Rattle.extended_reader.specs.declared.text_drafts.draft.DraftEntry.{DraftEntry}
use Rattle.extended_reader.specs.declared.text_drafts.draft.ExtendedDraft.{ExtendedDraft}
use Rattle.extended_charts.specs.declared.extended.ExtendedChart.{ExtendedChart}
use Rattle.extended_charts.specs.declared.extended.ExtendedState.{ExtendedState}
use Rattle.extended_charts.specs.declared.extended.ExtendedRegion.TheViews.{out-ExtendedState, roll-ExtendedState}
use Rattle.extended_reader.specs.declared.text_drafts.draft.DraftRows.{DraftRows}
use Rattle.extended_reader.specs.declared.rows.RowsLeft.{RowsLeft}
use Rattle.extended_reader.specs.declared.sorts.Sort.TheVariants as sort
use Rattle.extended_reader.specs.Counts.{conditions}
use Rattle.extended_reader.specs.Items.{all_of, before_of, constant_of, declared_of, signal_numbers}
use Rattle.extended_reader.specs.Resolved.{actions_of, all_regions, all_transitions, behind_regions, behind_state, durings_of, first_actions}
use Rattle.extended_reader.specs.Resolved.{region_of, rows_of}

-- the rows that are left
abbrev pub rows_in : RowsLeft → DraftRows
rows_in left = rows_of left.entries.now left.ways.now

abbrev pub fill_actions : (names : List (List ℕ)) → List DraftEntry → ExtendedState → ExtendedState
fill_actions names entries made =
    roll-ExtendedState (record (out-ExtendedState made) {
      entry = (out-ExtendedState made).entry ++ actions_of (codes "entry") names entries;
      exit = (out-ExtendedState made).exit ++ actions_of (codes "exit") names entries;
      during = (out-ExtendedState made).during ++ durings_of names entries;
    })

-- a state of a region, whose states have these names, where these rows are left
abbrev pub fill_state : (names states : List (List ℕ)) → DraftState → DraftRows → ExtendedState → ExtendedState
fill_state names states s rows made =
    roll-ExtendedState (record (out-ExtendedState made) {
      entry = (out-ExtendedState made).entry ++ actions_of (codes "entry") names (first_actions rows.entries);
      exit = (out-ExtendedState made).exit ++ actions_of (codes "exit") names (first_actions rows.entries);
      during = (out-ExtendedState made).during ++ durings_of names (first_actions rows.entries);
      regions = (out-ExtendedState made).regions ++ all_regions (behind_state rows) (map (region_of names) (out-DraftState s).regions);
      transitions = (out-ExtendedState made).transitions
          ++ all_transitions names states (behind_regions (behind_state rows) (map (region_of names) (out-DraftState s).regions))
          (out-DraftState s).transitions;
    })

abbrev pub fill_chart : (names : List (List ℕ)) → ExtendedDraft → ExtendedChart → ExtendedChart
fill_chart names d made =
    record made {
      variables = made.variables ++ map declared_of (all_of sort.Variable d.items);
      signals = made.signals ++ signal_numbers names d.items;
      befores = made.befores ++ map (before_of names) (all_of sort.Before d.items);
      constants = made.constants ++ map constant_of (all_of sort.Constant d.items);
      counts = made.counts ++ conditions names d.rows.ways;
      regions = made.regions ++ all_regions d.rows (map (region_of names) d.core.regions);
    }

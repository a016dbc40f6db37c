-- What private functions make: what is put into a state whose name and marks stand already.
pub mod TextDrafts
use Rattle.std.specs.Prelude.{ℕ, List, ◌++◌, map}
use Rattle.core_charts.specs.declared.region.Region.TheViews.{out-State, roll-State}
use Rattle.core_charts.specs.declared.region.State.{State}
use Rattle.chart_reader.specs.declared.text_drafts.draft.DraftRegion.TheViews.{out-DraftState}
use Rattle.chart_reader.specs.declared.text_drafts.draft.DraftState.{DraftState}
use Rattle.chart_reader.specs.Resolved.{regions_of, transition_of}

abbrev pub fill_state : (variables states : List (List ℕ)) → DraftState → State → State
fill_state variables states s made =
    roll-State (record (out-State made) {
      regions = (out-State made).regions ++ regions_of variables (out-DraftState s).regions;
      transitions = (out-State made).transitions ++ map (transition_of variables states) (out-DraftState s).transitions;
    })

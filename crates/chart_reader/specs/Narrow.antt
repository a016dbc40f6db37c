-- Regions that nest a few levels deep at most, none of which has more states than a text may have.
use Rattle.std.specs.Prelude.{ℕ, zero, suc, ◌≡◌, ◌≤◌, Some, List, [], length, slice_get}
use Rattle.core_charts.specs.Rules.{state_text_limit}
use Rattle.chart_reader.specs.declared.text_drafts.draft.DraftRegion.{DraftRegion}
use Rattle.chart_reader.specs.declared.text_drafts.draft.DraftRegion.TheViews.{out-DraftRegion, out-DraftState}
use Rattle.chart_reader.specs.declared.text_drafts.draft.DraftState.{DraftState}

-- no more states of one region than a text may have, of which the own regions keep this
pub record AreStatesFew (AreInside : List DraftRegion → Type 0) (states : List DraftState) : Type 0 where
  pub count : length states ≤ state_text_limit
  pub inside : (i : ℕ) (s : DraftState) → slice_get states i ≡ Some s → AreInside (out-DraftState s).regions

-- regions that nest this many levels deep at most, none of which has more states than that
abbrev pub AreNarrow : ℕ → List DraftRegion → Type 0
AreNarrow zero regions = regions ≡ []
AreNarrow (suc levels) regions =
    (i : ℕ) (r : DraftRegion) → slice_get regions i ≡ Some r → AreStatesFew (AreNarrow levels) (out-DraftRegion r).states

-- The places and the states around what is in a region, by its parts.
use Rattle.std.proofs.Common.{◌≡◌, ℕ, map}
use Rattle.chart_reader.specs.declared.text_drafts.draft.DraftRegion.{DraftRegion}
use Rattle.chart_reader.specs.declared.text_drafts.draft.DraftRegion.TheViews.{out-DraftRegion}
use Rattle.chart_reader.specs.declared.text_drafts.draft.DraftRegion.TheFolds.{fold_out-DraftRegion}
use Rattle.node_sources.specs.declared.chart_places.places.PlaceRows.{PlaceRows}
use Rattle.node_sources.specs.declared.chart_places.states_around.StatesAround.{StatesAround}
use Rattle.node_sources.specs.Places.{all, beside, in_region, in_state, of_region, of_state, region}
use Rattle.node_sources.specs.StatesAround as around

pub region_is : (r : DraftRegion) →
    of_region r ≡ beside (region (out-DraftRegion r).named.at) (all (map of_state (out-DraftRegion r).states))
region_is r = fold_out-DraftRegion PlaceRows PlaceRows in_region in_state r

pub states_around_in_region : (r : DraftRegion) →
    around.of_region r ≡ around.in_row (map around.of_state (out-DraftRegion r).states) (out-DraftRegion r).named.at
states_around_in_region r = fold_out-DraftRegion StatesAround (ℕ → StatesAround) around.in_region around.in_state r

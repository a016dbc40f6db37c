-- The places of a region, by its parts.
use Rattle.std.proofs.Common.{◌≡◌, List, map, ap}
use Rattle.chart_reader.specs.declared.text_drafts.draft.DraftRegion.{DraftRegion}
use Rattle.chart_reader.specs.declared.text_drafts.draft.DraftRegion.TheViews.{out-DraftRegion}
use Rattle.chart_reader.specs.declared.text_drafts.draft.DraftRegion.TheFolds.{fold_out-DraftRegion}
use Rattle.chart_warnings.specs.declared.texts.places.StatePlaces.{StatePlaces}
use Rattle.chart_warnings.specs.Places.{RegionPlaces, in_region, in_state, of_region, of_state, row}

pub region_at : (r : DraftRegion) → (of_region r).at ≡ (out-DraftRegion r).named.at
region_at r = ap (λ (p : RegionPlaces). p.at) (fold_out-DraftRegion RegionPlaces (List StatePlaces) in_region in_state r)

pub states_in : (r : DraftRegion) → (of_region r).states ≡ row (map of_state (out-DraftRegion r).states)
states_in r = ap (λ (p : RegionPlaces). p.states) (fold_out-DraftRegion RegionPlaces (List StatePlaces) in_region in_state r)

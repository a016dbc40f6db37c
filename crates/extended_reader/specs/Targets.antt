-- Where the targets of transitions stand that are states without regions.
use Rattle.std.specs.Prelude.{ℕ, Bool, not, Option, List, [], ◌∷◌, ◌++◌, map, if◌then◌else◌}
use Rattle.sc_values.specs.Code.{some_if}
use Rattle.sc_text.specs.Flaws.{is_among}
use Rattle.chart_reader.specs.declared.text_drafts.draft.DraftTransition.{DraftTransition}
use Rattle.chart_reader.specs.declared.text_drafts.draft.DraftRegion.{DraftRegion}
use Rattle.chart_reader.specs.declared.text_drafts.draft.DraftRegion.TheOpen.{DraftRegion-F, DraftState-F}
use Rattle.chart_reader.specs.declared.text_drafts.draft.DraftRegion.TheFolds.{fold-DraftRegion, fold-DraftState}
use Rattle.chart_reader.specs.declared.text_drafts.draft.DraftState.{DraftState}
use Rattle.chart_reader.specs.Flaws.{is_filled}

-- these places, one list behind the other
abbrev pub chained : List (List (Option ℕ)) → List (Option ℕ)
chained [] = []
chained (p ∷ places) = p ++ chained places

-- the place of the target, where it is one of these states
abbrev pub target_among : (simple : List (List ℕ)) → DraftTransition → Option ℕ
target_among simple t = some_if (is_among simple t.target.name) t.target.at

-- a state by its name: whether it has no regions, and for each transition in it and of it the place of the target, in a
-- region whose states without regions have these names
pub record StateTargets : Type 0 where
  pub name : List ℕ
  pub is_simple : Bool
  pub places : (simple : List (List ℕ)) → List (Option ℕ)

abbrev pub simple_name : StateTargets → List (List ℕ)
simple_name s = if s.is_simple then s.name ∷ [] else []

abbrev pub simple_names : List StateTargets → List (List ℕ)
simple_names [] = []
simple_names (s ∷ states) = simple_name s ++ simple_names states

abbrev pub state_step : DraftState-F (List (Option ℕ)) StateTargets → StateTargets
state_step s =
    record {
      name = s.named.name;
      is_simple = not (is_filled s.regions);
      places = λ simple. chained s.regions ++ map (target_among simple) s.transitions;
    }

abbrev pub places_in : (simple : List (List ℕ)) → List StateTargets → List (Option ℕ)
places_in simple states = chained (map (λ s. s.places simple) states)

abbrev pub region_step : DraftRegion-F (List (Option ℕ)) StateTargets → List (Option ℕ)
region_step r = places_in (simple_names r.states) r.states

abbrev pub region_targets : DraftRegion → List (Option ℕ)
region_targets = fold-DraftRegion (List (Option ℕ)) StateTargets region_step state_step

abbrev pub state_targets : DraftState → StateTargets
state_targets = fold-DraftState (List (Option ℕ)) StateTargets region_step state_step

-- for each transition in these regions, in the order of the text, the place of its target where that has no regions
abbrev pub simple_targets : List DraftRegion → List (Option ℕ)
simple_targets regions = chained (map region_targets regions)

-- Where the elements of a chart stand in its text of which warnings speak: variables and states by their numbers, and
-- transitions and regions within their state.
use Rattle.std.specs.Prelude.{ℕ, List, [], ◌∷◌, ◌++◌, map, slice_get, unwrap_or}
use Rattle.chart_reader.specs.declared.text_drafts.draft.DraftRegion.{DraftRegion}
use Rattle.chart_reader.specs.declared.text_drafts.draft.DraftRegion.TheOpen.{DraftRegion-F, DraftState-F}
use Rattle.chart_reader.specs.declared.text_drafts.draft.DraftRegion.TheFolds.{fold-DraftRegion, fold-DraftState}
use Rattle.chart_reader.specs.declared.text_drafts.draft.DraftState.{DraftState}
use Rattle.chart_reader.specs.declared.text_drafts.draft.DraftChart.{DraftChart}
use Rattle.chart_warnings.specs.declared.warning.Warning.{Warning}
use Rattle.chart_warnings.specs.declared.warning.Warning.TheVariants as warning
use Rattle.chart_warnings.specs.declared.texts.places.StatePlaces.{StatePlaces}
use Rattle.chart_warnings.specs.declared.texts.places.ChartPlaces.{ChartPlaces}

-- ---- states in the order of the text: one before what is inside it

-- a region with all that is in it: the place of its name, and its states
pub record RegionPlaces : Type 0 where
  pub at : ℕ
  pub states : List StatePlaces

abbrev pub row : List (List StatePlaces) → List StatePlaces
row [] = []
row (a ∷ others) = a ++ row others

-- a region stands at its name, a transition at its word
abbrev pub own : DraftState-F RegionPlaces (List StatePlaces) → StatePlaces
own s =
    record {
      name = s.named.at;
      transitions = map (λ t. t.at) s.transitions;
      regions = map (λ r. r.at) s.regions;
    }

abbrev pub in_state : DraftState-F RegionPlaces (List StatePlaces) → List StatePlaces
in_state s = own s ∷ row (map (λ r. r.states) s.regions)

abbrev pub in_region : DraftRegion-F RegionPlaces (List StatePlaces) → RegionPlaces
in_region r = record { at = r.named.at; states = row r.states }

abbrev pub of_region : DraftRegion → RegionPlaces
of_region = fold-DraftRegion RegionPlaces (List StatePlaces) in_region in_state

abbrev pub of_state : DraftState → List StatePlaces
of_state = fold-DraftState RegionPlaces (List StatePlaces) in_region in_state

abbrev pub of_regions : List DraftRegion → List StatePlaces
of_regions regions = row (map (λ r. r.states) (map of_region regions))

abbrev pub places_of : DraftChart → ChartPlaces
places_of d = record { variables = map (λ v. v.named.at) d.variables; states = of_regions d.regions }

-- ---- the place of a warning

-- that of this number; where there is none, the first of the text
abbrev pub at_number : List ℕ → ℕ → ℕ
at_number places n = unwrap_or (slice_get places n) 0

abbrev pub no_state : StatePlaces
no_state = record { name = 0; transitions = []; regions = [] }

abbrev pub state_at : ChartPlaces → ℕ → StatePlaces
state_at p n = unwrap_or (slice_get p.states n) no_state

-- of a transition's warning the transition's place, of a state's the state's name, of a region's the region's name, of a
-- variable's the variable's name where it is declared
abbrev pub place_of : ChartPlaces → Warning → ℕ
place_of p (warning.StaysOn n k x) = at_number (state_at p n).transitions k
place_of p (warning.Forestalled n k) = at_number (state_at p n).transitions k
place_of p (warning.Unreached n) = (state_at p n).name
place_of p (warning.NeverRead x) = at_number p.variables x
place_of p (warning.NeverSet x) = at_number p.variables x
place_of p (warning.NeverAsked x) = at_number p.variables x
place_of p (warning.NeverEnded n k j) = at_number (state_at p n).regions j
place_of p (warning.NeverLeft n) = (state_at p n).name

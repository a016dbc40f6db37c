-- Where the elements of a chart stand in its text, by their numbers: a region and a state at their names, a transition at
-- its word, and an effect at its variable. A fold over the draft of the text.
use Rattle.std.specs.Prelude.{ℕ, Option, Some, None, List, [], ◌∷◌, ◌++◌, map, slice_get}
use Rattle.core_charts.specs.declared.elements.element.Element.{Element}
use Rattle.core_charts.specs.declared.elements.element.Element.TheVariants as element
use Rattle.chart_reader.specs.declared.text_drafts.draft.DraftEffect.{DraftEffect}
use Rattle.chart_reader.specs.declared.text_drafts.draft.DraftTransition.{DraftTransition}
use Rattle.chart_reader.specs.declared.text_drafts.draft.DraftRegion.{DraftRegion}
use Rattle.chart_reader.specs.declared.text_drafts.draft.DraftRegion.TheOpen.{DraftRegion-F, DraftState-F}
use Rattle.chart_reader.specs.declared.text_drafts.draft.DraftRegion.TheFolds.{fold-DraftRegion, fold-DraftState}
use Rattle.chart_reader.specs.declared.text_drafts.draft.DraftState.{DraftState}
use Rattle.chart_reader.specs.declared.text_drafts.draft.DraftChart.{DraftChart}
use Rattle.node_sources.specs.declared.chart_places.places.PlaceRows.{PlaceRows}
use Rattle.node_sources.specs.declared.chart_places.places.Places.{Places}
use Rattle.node_sources.specs.declared.chart_places.states_around.StateAround.{StateAround}
use Rattle.node_sources.specs.StatesAround.{states_around_of}

-- ---- rows of places, one sort beside the other

abbrev pub nothing : PlaceRows
nothing = record { regions = []; states = []; transitions = []; effects = [] }

abbrev pub beside : PlaceRows → PlaceRows → PlaceRows
beside a b =
    record {
      regions = a.regions ++ b.regions;
      states = a.states ++ b.states;
      transitions = a.transitions ++ b.transitions;
      effects = a.effects ++ b.effects;
    }

abbrev pub all : List PlaceRows → PlaceRows
all [] = nothing
all (a ∷ others) = beside a (all others)

abbrev pub region : ℕ → PlaceRows
region at = record { regions = at ∷ []; states = []; transitions = []; effects = [] }

abbrev pub state : ℕ → PlaceRows
state at = record { regions = []; states = at ∷ []; transitions = []; effects = [] }

-- a transition with its effects
abbrev pub transition : ℕ → List ℕ → PlaceRows
transition at effects = record { regions = []; states = []; transitions = at ∷ []; effects = effects }

-- ---- transitions

abbrev pub of_effects : List DraftEffect → List ℕ
of_effects effects = map (λ e. e.variable.at) effects

abbrev pub of_transition : DraftTransition → PlaceRows
of_transition t = transition t.at (of_effects t.effects)

-- ---- states and regions, with all that is in them

-- a state with its transitions, and then what is inside it
abbrev pub in_state : DraftState-F PlaceRows PlaceRows → PlaceRows
in_state s = beside (beside (state s.named.at) (all (map of_transition s.transitions))) (all s.regions)

abbrev pub in_region : DraftRegion-F PlaceRows PlaceRows → PlaceRows
in_region r = beside (region r.named.at) (all r.states)

abbrev pub of_region : DraftRegion → PlaceRows
of_region = fold-DraftRegion PlaceRows PlaceRows in_region in_state

abbrev pub of_state : DraftState → PlaceRows
of_state = fold-DraftState PlaceRows PlaceRows in_region in_state

abbrev pub places_of : DraftChart → Places
places_of d = record { chart = d.named.at; rows = all (map of_region d.regions); states_around = states_around_of d }

-- ---- one place

abbrev pub place_of : Places → Element → Option ℕ
place_of p element.Chart = Some p.chart
place_of p (element.Region n) = slice_get p.rows.regions n
place_of p (element.State n) = slice_get p.rows.states n
place_of p (element.Transition n) = slice_get p.rows.transitions n
place_of p (element.Effect n) = slice_get p.rows.effects n

-- ---- in which state and which region an element stands

abbrev pub state_around : Places → Element → Option StateAround
state_around p element.Chart = None
state_around p (element.Region n) = None
state_around p (element.State n) = slice_get p.states_around.states n
state_around p (element.Transition n) = slice_get p.states_around.transitions n
state_around p (element.Effect n) = slice_get p.states_around.effects n

-- In which state and which region of a text the states, transitions and effects of a chart stand, by their numbers. A fold
-- over the draft of the text, beside that of places.
use Rattle.std.specs.Prelude.{ℕ, List, [], ◌∷◌, ◌++◌, map}
use Rattle.chart_reader.specs.declared.text_drafts.draft.DraftEffect.{DraftEffect}
use Rattle.chart_reader.specs.declared.text_drafts.draft.DraftTransition.{DraftTransition}
use Rattle.chart_reader.specs.declared.text_drafts.draft.DraftRegion.{DraftRegion}
use Rattle.chart_reader.specs.declared.text_drafts.draft.DraftRegion.TheOpen.{DraftRegion-F, DraftState-F}
use Rattle.chart_reader.specs.declared.text_drafts.draft.DraftRegion.TheFolds.{fold-DraftRegion, fold-DraftState}
use Rattle.chart_reader.specs.declared.text_drafts.draft.DraftState.{DraftState}
use Rattle.chart_reader.specs.declared.text_drafts.draft.DraftChart.{DraftChart}
use Rattle.node_sources.specs.declared.chart_places.states_around.StateAround.{StateAround}
use Rattle.node_sources.specs.declared.chart_places.states_around.StatesAround.{StatesAround}

-- ---- rows of states around, one sort beside the other

abbrev pub nothing : StatesAround
nothing = record { states = []; transitions = []; effects = [] }

abbrev pub beside : StatesAround → StatesAround → StatesAround
beside a b =
    record {
      states = a.states ++ b.states;
      transitions = a.transitions ++ b.transitions;
      effects = a.effects ++ b.effects;
    }

abbrev pub all : List StatesAround → StatesAround
all [] = nothing
all (a ∷ others) = beside a (all others)

abbrev pub state : StateAround → StatesAround
state around = record { states = around ∷ []; transitions = []; effects = [] }

-- ---- transitions of a state, with their effects

abbrev pub of_effects : StateAround → List DraftEffect → List StateAround
of_effects around [] = []
of_effects around (e ∷ effects) = around ∷ of_effects around effects

abbrev pub of_transitions : StateAround → List DraftTransition → StatesAround
of_transitions around [] = nothing
of_transitions around (t ∷ own) =
    beside (record { states = []; transitions = around ∷ []; effects = of_effects around t.effects }) (of_transitions around own)

-- ---- states and regions, with all that is in them

-- what is around a state whose name stands there, in a region whose name stands there
abbrev pub state_around : (region state : ℕ) → StateAround
state_around region state = record { region = region; state = state }

-- states of a region whose name stands there
abbrev pub in_row : List (ℕ → StatesAround) → ℕ → StatesAround
in_row [] region = nothing
in_row (s ∷ states) region = beside (s region) (in_row states region)

abbrev pub in_state : DraftState-F StatesAround (ℕ → StatesAround) → ℕ → StatesAround
in_state s region =
    beside (beside (state (state_around region s.named.at)) (of_transitions (state_around region s.named.at) s.transitions)) (all s.regions)

abbrev pub in_region : DraftRegion-F StatesAround (ℕ → StatesAround) → StatesAround
in_region r = in_row r.states r.named.at

abbrev pub of_region : DraftRegion → StatesAround
of_region = fold-DraftRegion StatesAround (ℕ → StatesAround) in_region in_state

abbrev pub of_state : DraftState → ℕ → StatesAround
of_state = fold-DraftState StatesAround (ℕ → StatesAround) in_region in_state

abbrev pub states_around_of : DraftChart → StatesAround
states_around_of d = all (map of_region d.regions)

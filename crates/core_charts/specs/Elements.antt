-- What stands at the numbers of the elements of a chart: regions and states by their names, transitions and effects as
-- they are.
use Rattle.std.specs.Prelude.{ℕ, List, [], ◌∷◌, ◌++◌, map}
use Rattle.core_charts.specs.declared.region.Effect.{Effect}
use Rattle.core_charts.specs.declared.region.Transition.{Transition}
use Rattle.core_charts.specs.declared.region.Region.{Region}
use Rattle.core_charts.specs.declared.region.State.{State}
use Rattle.core_charts.specs.declared.region.Region.TheOpen.{Region-F, State-F}
use Rattle.core_charts.specs.declared.region.Region.TheFolds.{fold-Region, fold-State}
use Rattle.core_charts.specs.Chart.{Chart}

-- lists one behind the other
abbrev pub row : {A : Type 0} → List (List A) → List A
row [] = []
row (a ∷ others) = a ++ row others

-- ---- transitions and their effects

abbrev pub in_state : State-F (List Transition) (List Transition) → List Transition
in_state s = s.transitions ++ row s.regions

abbrev pub in_region : Region-F (List Transition) (List Transition) → List Transition
in_region r = row r.states

abbrev pub of_region : Region → List Transition
of_region = fold-Region (List Transition) (List Transition) in_region in_state

abbrev pub of_state : State → List Transition
of_state = fold-State (List Transition) (List Transition) in_region in_state

abbrev pub all_transitions : Chart → List Transition
all_transitions c = row (map of_region c.regions)

abbrev pub all_effects : List Transition → List Effect
all_effects [] = []
all_effects (t ∷ others) = t.effects ++ all_effects others

-- ---- names

abbrev pub Names : Type 0
Names = List (List ℕ)

-- of states
abbrev pub states_in_state : State-F Names Names → Names
states_in_state s = s.name ∷ row s.regions

abbrev pub states_in_region : Region-F Names Names → Names
states_in_region r = row r.states

abbrev pub states_of_region : Region → Names
states_of_region = fold-Region Names Names states_in_region states_in_state

abbrev pub states_of_state : State → Names
states_of_state = fold-State Names Names states_in_region states_in_state

abbrev pub state_names : Chart → Names
state_names c = row (map states_of_region c.regions)

-- of regions
abbrev pub regions_in_state : State-F Names Names → Names
regions_in_state s = row s.regions

abbrev pub regions_in_region : Region-F Names Names → Names
regions_in_region r = r.name ∷ row r.states

abbrev pub regions_of_region : Region → Names
regions_of_region = fold-Region Names Names regions_in_region regions_in_state

abbrev pub regions_of_state : State → Names
regions_of_state = fold-State Names Names regions_in_region regions_in_state

abbrev pub region_names : Chart → Names
region_names c = row (map regions_of_region c.regions)

-- ---- all elements

pub record Contents : Type 0 where
  pub regions : Names
  pub states : Names
  pub transitions : List Transition

abbrev pub contents : Chart → Contents
contents c = record { regions = region_names c; states = state_names c; transitions = all_transitions c }

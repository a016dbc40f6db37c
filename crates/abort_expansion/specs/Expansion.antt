-- The expansion of strong and weak aborts: states and regions with all that is in them, and charts.
use Rattle.std.specs.Prelude.{ℕ, suc, ◌+◌, ◌≤◌, Bool, true, false, not, ◌||◌, ◌&&◌, Option, Some, None, List, [], ◌∷◌, ◌++◌, map, length, if◌then◌else◌}
use Rattle.std.specs.List.{list_any}
use Rattle.sc_graph.specs.Limits.{variable_limit}
use Rattle.core_charts.specs.declared.region.Transition.{Transition}
use Rattle.core_charts.specs.declared.region.Region.{Region}
use Rattle.core_charts.specs.declared.region.State.{State}
use Rattle.core_charts.specs.declared.region.Region.TheOpen.{Region-F, State-F}
use Rattle.core_charts.specs.declared.region.Region.TheViews.{roll-Region, roll-State}
use Rattle.core_charts.specs.declared.region.Region.TheFolds.{fold-Region, fold-State}
use Rattle.core_charts.specs.Chart.{Chart}
use Rattle.core_charts.specs.Aborts.{has_weak}
use Rattle.abort_expansion.specs.declared.flags.Flags.{Flags}
use Rattle.abort_expansion.specs.declared.places.RegionPlaces.{RegionPlaces}
use Rattle.abort_expansion.specs.declared.pieces.StatePieces.{StatePieces}
use Rattle.abort_expansion.specs.declared.pieces.Regions.{Regions}
use Rattle.abort_expansion.specs.declared.pieces.NextNumbers.{NextNumbers}
use Rattle.abort_expansion.specs.Flags.{first_name, flag_count, flags_of, one, aborts_around, weak_around}
use Rattle.abort_expansion.specs.Transitions.{count_down, on, go}
use Rattle.abort_expansion.specs.Pieces.{beside, RegionPiece, StatePiece, superstates_in, states_in, variables_in, expanded_regions}
use Rattle.abort_expansion.specs.Superstates.{simple, stays, is_prepared, abandoned, within, superstate_over}

-- what is inside a superstate
abbrev pub inside_superstate : List RegionPiece → List Transition → List Flags → Flags → NextNumbers → Regions
inside_superstate regions own around flags at =
    expanded_regions regions (around ++ flags ∷ []) flags.counter (within (weak_around around) own at)

abbrev pub superstate : State-F RegionPiece StatePiece → List Flags → Flags → RegionPlaces → ℕ → Bool → NextNumbers → StatePieces
superstate s around flags to place begins at =
    superstate_over s.name (length s.regions) s.transitions around flags
    (inside_superstate s.regions s.transitions around flags at) to place begins at

-- ---- states

abbrev pub is_superstate : List RegionPiece → Bool
is_superstate [] = false
is_superstate (r ∷ regions) = true

abbrev pub width : Bool → List Flags → List Transition → ℕ
width false around own = 1
width true around own =
    if stays around own then 1 else if is_prepared around own then 3 else 2

abbrev pub made : Bool → State-F RegionPiece StatePiece → List Flags → RegionPlaces → ℕ → Bool → NextNumbers → StatePieces
made false s around to place begins at =
    record {
      states = simple s.is_final s.name s.transitions around to begins ∷ [];
      variables = [];
      stands_for = Some at.state ∷ [];
    }
made true s around to place begins at =
    superstate s around (flags_of (weak_around around) s.transitions at.variable) to place begins at

abbrev pub state_piece : State-F RegionPiece StatePiece → StatePiece
state_piece s =
    record {
      is_initial = s.is_initial;
      is_final = s.is_final;
      superstates = (if is_superstate s.regions then 1 else 0) + superstates_in s.regions;
      states = suc (states_in s.regions);
      variables = λ weak.
          (if is_superstate s.regions then flag_count weak s.transitions else 0) +
          variables_in (weak || (is_superstate s.regions && has_weak s.transitions)) s.regions;
      width = λ around. width (is_superstate s.regions) around s.transitions;
      made = made (is_superstate s.regions) s;
    }

-- ---- regions

-- where each state is, from this place on
abbrev pub places : List StatePiece → List Flags → ℕ → List ℕ
places [] around place = []
places (s ∷ states) around place = place ∷ places states around (place + s.width around)

abbrev pub widths : List StatePiece → List Flags → ℕ
widths [] around = 0
widths (s ∷ states) around = s.width around + widths states around

abbrev pub past_state : Bool → StatePiece → NextNumbers → NextNumbers
past_state weak s at =
    record {
      superstate = at.superstate + s.superstates;
      variable = at.variable + s.variables weak;
      state = at.state + s.states;
    }

-- the states of a region, of which the initial one is initial still, unless another one was put before them
abbrev pub expanded_states : Bool → List StatePiece → List Flags → RegionPlaces → ℕ → NextNumbers → StatePieces
expanded_states anew [] around to place at = record { states = []; variables = []; stands_for = [] }
expanded_states anew (s ∷ states) around to place at =
    beside (s.made around to place (s.is_initial && not anew) at)
    (expanded_states anew states around to (place + s.width around) (past_state (weak_around around) s at))

-- whether the initial state is final, in a superstate that counts: then the end of the region is counted too
abbrev pub begins_anew : Option ℕ → List StatePiece → Bool
begins_anew (Some x) states = list_any (λ s. s.is_initial && s.is_final) states
begins_anew None states = false

-- the place and the number of the initial state, from these on
abbrev pub initial_place : List StatePiece → List Flags → ℕ → ℕ
initial_place [] around place = place
initial_place (s ∷ states) around place =
    if s.is_initial then place else initial_place states around (place + s.width around)

abbrev pub initial_number : List StatePiece → ℕ → ℕ
initial_number [] n = n
initial_number (s ∷ states) n = if s.is_initial then n else initial_number states (n + s.states)

-- the new initial state, which counts down and goes to the one of the text
abbrev pub new_initial : Bool → Option ℕ → (target number : ℕ) → StatePieces
new_initial true counter target number =
    record {
      states = roll-State (record {
        name = first_name;
        is_initial = true;
        is_final = false;
        regions = [];
        transitions = go true None (on counter count_down) target ∷ [];
      }) ∷ [];
      variables = [];
      stands_for = Some number ∷ [];
    }
new_initial false counter target number = record { states = []; variables = []; stands_for = [] }

-- the abandoned state, in regions that superstates with aborts enclose
abbrev pub left_behind : Bool → StatePieces
left_behind true = record { states = abandoned ∷ []; variables = []; stands_for = None ∷ [] }
left_behind false = record { states = []; variables = []; stands_for = [] }

-- where the states of a region are, of which the first one of the text has this place
abbrev pub region_places : List StatePiece → List Flags → Option ℕ → (begin : ℕ) → RegionPlaces
region_places states around counter begin =
    record {
      states = places states around begin;
      finals = map (λ s. s.is_final) states;
      left = begin + widths states around;
      counter = counter;
    }

-- all states of a region: the new initial one, those of the text, and the abandoned one
abbrev pub region_over : Bool → List StatePiece → List Flags → Option ℕ → (begin : ℕ) → NextNumbers → StatePieces
region_over anew states around counter begin at =
    beside (new_initial anew counter (initial_place states around begin) (initial_number states at.state))
    (beside (expanded_states anew states around (region_places states around counter begin) begin at)
    (left_behind (aborts_around around)))

abbrev pub inside_region : List StatePiece → List Flags → Option ℕ → NextNumbers → StatePieces
inside_region states around counter at =
    region_over (begins_anew counter states) states around counter (one (begins_anew counter states)) at

abbrev pub named : List ℕ → StatePieces → Regions
named name inside =
    record {
      regions = roll-Region (record { name = name; states = inside.states }) ∷ [];
      variables = inside.variables;
      stands_for = inside.stands_for;
    }

abbrev pub superstates_among : List StatePiece → ℕ
superstates_among [] = 0
superstates_among (s ∷ states) = s.superstates + superstates_among states

abbrev pub states_among : List StatePiece → ℕ
states_among [] = 0
states_among (s ∷ states) = s.states + states_among states

abbrev pub variables_among : Bool → List StatePiece → ℕ
variables_among weak [] = 0
variables_among weak (s ∷ states) = s.variables weak + variables_among weak states

abbrev pub region_piece : Region-F RegionPiece StatePiece → RegionPiece
region_piece r =
    record {
      superstates = superstates_among r.states;
      states = states_among r.states;
      variables = λ weak. variables_among weak r.states;
      made = λ around counter at. named r.name (inside_region r.states around counter at);
    }

abbrev pub piece_of_region : Region → RegionPiece
piece_of_region = fold-Region RegionPiece StatePiece region_piece state_piece

abbrev pub piece_of_state : State → StatePiece
piece_of_state = fold-State RegionPiece StatePiece region_piece state_piece

-- ---- charts

-- where nothing is expanded yet, behind so many declared variables
abbrev pub whole : ℕ → NextNumbers
whole declared = record { superstate = 1; variable = declared; state = 0 }

abbrev pub all_expanded : ℕ → List RegionPiece → Regions
all_expanded declared regions = expanded_regions regions [] None (whole declared)

abbrev pub expansion : Chart → Regions
expansion c = all_expanded (length c.variables) (map piece_of_region c.regions)

-- the core chart: the variables of the flags and counters stand behind the declared ones
abbrev pub expanded : Chart → Chart
expanded c =
    record { name = c.name; variables = c.variables ++ (expansion c).variables; regions = (expansion c).regions }

-- of each core state, by its number, the number of the chart's state for which it stands
abbrev pub state_map : Chart → List (Option ℕ)
state_map c = (expansion c).stands_for

-- a chart can be expanded where the variables are not too many
abbrev pub IsExpandable : Chart → Type 0
IsExpandable c = length (expanded c).variables ≤ variable_limit

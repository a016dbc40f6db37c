-- The states of a chart in the order of its text, and for which of them a core state of some name stands.
use Rattle.std.specs.Prelude.{ℕ, zero, suc, ◌+◌, ◌≡◌, Bool, true, false, Option, Some, None, List, [], ◌∷◌, ◌++◌, map, length, slice_get, if◌then◌else◌}
use Rattle.core_charts.specs.declared.features.Features.TheVariants as features
use Rattle.core_charts.specs.declared.region.Region.{Region}
use Rattle.core_charts.specs.declared.region.Region.TheOpen.{Region-F, State-F}
use Rattle.core_charts.specs.declared.region.Region.TheFolds.{fold-Region, fold-State}
use Rattle.core_charts.specs.declared.region.State.{State}
use Rattle.core_charts.specs.Chart.{Chart}
use Rattle.core_charts.specs.Rules.{IsChart}
use Rattle.chart_machine.specs.Table.{table}
use Rattle.abort_expansion.specs.Flags.{preparation_name, continuation_name, watching_name, abandoned_name, first_name}
use Rattle.abort_expansion.specs.Expansion.{expanded, state_map}
use Rattle.abort_expansion.specs.StateMap.{chart_state}

-- what is told of a state
pub record StateOfText : Type 0 where
  pub name : List ℕ
  pub is_superstate : Bool

abbrev pub all_in : List (List StateOfText) → List StateOfText
all_in [] = []
all_in (xs ∷ more) = xs ++ all_in more

abbrev pub is_some : List (List StateOfText) → Bool
is_some [] = false
is_some (xs ∷ more) = true

abbrev pub told_of_region : Region-F (List StateOfText) (List StateOfText) → List StateOfText
told_of_region r = all_in r.states

-- a state, and behind it those inside it
abbrev pub told_of_state : State-F (List StateOfText) (List StateOfText) → List StateOfText
told_of_state s = record { name = s.name; is_superstate = is_some s.regions } ∷ all_in s.regions

abbrev pub states_of_region : Region → List StateOfText
states_of_region = fold-Region (List StateOfText) (List StateOfText) told_of_region told_of_state

abbrev pub states_of_state : State → List StateOfText
states_of_state = fold-State (List StateOfText) (List StateOfText) told_of_region told_of_state

-- all states of a chart, in the order of the text, in which they are numbered
abbrev pub states_of : Chart → List StateOfText
states_of c = all_in (map states_of_region c.regions)

-- how many of the first n of these are superstates
abbrev pub superstates_before : List StateOfText → ℕ → ℕ
superstates_before those zero = 0
superstates_before [] (suc n) = 0
superstates_before (x ∷ those) (suc n) = (if x.is_superstate then 1 else 0) + superstates_before those n

-- the number of a superstate among the superstates of the chart, from 1
abbrev pub superstate_number : List StateOfText → ℕ → ℕ
superstate_number those s = suc (superstates_before those s)

-- a core state of this name stands for one of these, or for none
pub data StandsFor (those : List StateOfText) (name : List ℕ) : Option ℕ → Type 0 where
  -- a simple state, a superstate that stays as it is, or the fork of one that does not
  itself : (s : ℕ) (x : StateOfText) → slice_get those s ≡ Some x → name ≡ x.name → StandsFor those name (Some s)
  -- the new initial state of a region whose initial state is final
  starts : (s : ℕ) (x : StateOfText) → slice_get those s ≡ Some x → name ≡ first_name → StandsFor those name (Some s)
  -- the preparation and the continuation of a superstate
  prepares : (s : ℕ) (x : StateOfText) → slice_get those s ≡ Some x → x.is_superstate ≡ true → name ≡ preparation_name (superstate_number those s) →
      StandsFor those name (Some s)
  continues : (s : ℕ) (x : StateOfText) → slice_get those s ≡ Some x → x.is_superstate ≡ true → name ≡ continuation_name (superstate_number those s) →
      StandsFor those name (Some s)
  -- the abandoned state of a region or of a monitor, and the state in which a monitor watches
  leaves : name ≡ abandoned_name → StandsFor those name None
  watches : name ≡ watching_name → StandsFor those name None

-- the map of states has an entry for each state of the core chart, that of its name
abbrev pub StatesAreMapped : Type 0
StatesAreMapped =
    (c : Chart) → IsChart features.Extended c →
    (length (state_map c) ≡ length (table (expanded c)).states) ×
    (length (state_map c) ≡ length (states_of (expanded c))) ×
    ((n : ℕ) (x : StateOfText) → slice_get (states_of (expanded c)) n ≡ Some x → StandsFor (states_of c) x.name (chart_state (state_map c) n))

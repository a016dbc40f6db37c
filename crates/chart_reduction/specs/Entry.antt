-- Entry actions: a state that has such is entered by a step state before it, which makes them. The initial state and all
-- transitions that led to the state lead there.
use Rattle.std.specs.Prelude.{ℕ, ◌+◌, Bool, true, false, not, ◌&&◌, List, [], ◌∷◌, ◌++◌, map, slice_get, unwrap_or, codes, if◌then◌else◌}
use Rattle.core_charts.specs.declared.region.Effect.{Effect}
use Rattle.core_charts.specs.declared.region.Transition.{Transition}
use Rattle.core_charts.specs.declared.region.Region.{Region}
use Rattle.core_charts.specs.declared.region.State.{State}
use Rattle.core_charts.specs.declared.region.Region.TheViews.{roll-Region, roll-State}
use Rattle.extended_charts.specs.declared.extended.ExtendedRegion.{ExtendedRegion}
use Rattle.extended_charts.specs.declared.extended.ExtendedState.{ExtendedState}
use Rattle.extended_charts.specs.declared.extended.ExtendedRegion.TheOpen.{ExtendedRegion-F, ExtendedState-F}
use Rattle.extended_charts.specs.declared.extended.ExtendedRegion.TheFolds.{fold-ExtendedRegion, fold-ExtendedState}
use Rattle.sc_text.specs.MadeNames.{numbered}
use Rattle.extended_charts.specs.Making.{has_some, always}

-- a state in whose regions all entry actions are made
pub record Entered : Type 0 where
  pub name : List ℕ
  pub is_initial : Bool
  pub is_final : Bool
  pub entry : List Effect
  pub regions : List Region
  pub transitions : List Transition

abbrev pub width : Entered → ℕ
width s = if has_some s.entry then 2 else 1

-- the place at which each state is entered, from this place on
abbrev pub entrances : List Entered → ℕ → List ℕ
entrances [] place = []
entrances (s ∷ states) place = place ∷ entrances states (place + width s)

-- where there is no state
abbrev pub nowhere : ℕ
nowhere = 4294967295

-- a transition as it stands, to where its target is entered
abbrev pub led : List ℕ → Transition → Transition
led at t = record t { target = unwrap_or (slice_get at t.target) nowhere }

-- the state itself, whose transitions lead to where their targets are entered
abbrev pub standing : List ℕ → Entered → State
standing at s =
    roll-State (record {
      name = s.name;
      is_initial = s.is_initial && not (has_some s.entry);
      is_final = s.is_final;
      regions = s.regions;
      transitions = map (led at) s.transitions;
    })

-- the step state of this number and place, which leads to the one behind it
abbrev pub entering : (number place : ℕ) → (is_initial : Bool) → List Effect → List State
entering number place is_initial entry =
    if has_some entry
    then roll-State (record {
      name = numbered (codes "enter__") number;
      is_initial = is_initial;
      is_final = false;
      regions = [];
      transitions = always true entry (place + 1) ∷ [];
    }) ∷ []
    else []

-- what stands for a state of this number, from this place on
abbrev pub laid : List ℕ → (number place : ℕ) → Entered → List State
laid at number place s = entering number place s.is_initial s.entry ++ standing at s ∷ []

abbrev pub all_laid : List ℕ → (number place : ℕ) → List Entered → List State
all_laid at number place [] = []
all_laid at number place (s ∷ states) =
    laid at number place s ++ all_laid at (number + 1) (place + width s) states

abbrev pub state_step : ExtendedState-F Region Entered → Entered
state_step s =
    record {
      name = s.name;
      is_initial = s.is_initial;
      is_final = s.is_final;
      entry = s.entry;
      regions = s.regions;
      transitions = s.transitions;
    }

abbrev pub region_step : ExtendedRegion-F Region Entered → Region
region_step r = roll-Region (record { name = r.name; states = all_laid (entrances r.states 0) 0 0 r.states })

abbrev pub without_entry : ExtendedRegion → Region
without_entry = fold-ExtendedRegion Region Entered region_step state_step

abbrev pub entered : ExtendedState → Entered
entered = fold-ExtendedState Region Entered region_step state_step

-- What states become whose during actions end with what is inside, by their parts.
use Rattle.std.proofs.Common.{◌≡◌, ℕ, ◌+◌, Bool, ◌++◌, map, ap}
use Rattle.std.specs.Prelude.{◌&&◌, ◌||◌}
use Rattle.extended_charts.specs.declared.extended.ExtendedState.{ExtendedState}
use Rattle.extended_charts.specs.declared.extended.ExtendedRegion.TheViews.{out-ExtendedState, roll-ExtendedState}
use Rattle.extended_charts.specs.declared.extended.ExtendedRegion.TheFolds.{fold_out-ExtendedState}
use Rattle.extended_charts.specs.Making.{one}
use Rattle.chart_reduction.specs.Endings.{EndingRegion, EndingState, region_step, state_step, ending_in_region, ending_in_state, endings_in}
use Rattle.chart_reduction.specs.Endings.{all_regions, is_ending, beginning, left_durings, inside, left_transitions}
use Rattle.chart_reduction.specs.Endings.{region_at_once, state_at_once, begins_so, all_at_once, is_joined, is_immediate}

pub state_begins : (s : ExtendedState) → begins_so s
    ≡ ((out-ExtendedState s).is_initial && ((out-ExtendedState s).is_final || (is_immediate (out-ExtendedState s).transitions
    || (is_joined (out-ExtendedState s).transitions && all_at_once (out-ExtendedState s).regions))))
state_begins s = fold_out-ExtendedState Bool Bool region_at_once state_at_once s

pub state_endings : (s : ExtendedState) → (ending_in_state s).endings
    ≡ one (is_ending (out-ExtendedState s).during (out-ExtendedState s).transitions) + endings_in (map ending_in_region (out-ExtendedState s).regions)
state_endings s = ap (λ e. e.endings) (fold_out-ExtendedState EndingRegion EndingState region_step state_step s)

-- a state, where it is such a one or not
abbrev made_of : ExtendedState → (ends : Bool) (x : ℕ) → ExtendedState
made_of s ends x = roll-ExtendedState (record {
  name = (out-ExtendedState s).name;
  is_own = (out-ExtendedState s).is_own;
  is_initial = (out-ExtendedState s).is_initial;
  is_final = (out-ExtendedState s).is_final;
  entry = beginning ends x ++ (out-ExtendedState s).entry;
  exit = (out-ExtendedState s).exit;
  during = left_durings ends (out-ExtendedState s).during;
  regions =
      inside ends x (out-ExtendedState s).during (out-ExtendedState s).transitions
      (all_regions (x + one ends) (map ending_in_region (out-ExtendedState s).regions));
  transitions = left_transitions ends (out-ExtendedState s).transitions;
})

pub state_ends : (s : ExtendedState) (x : ℕ) → (ending_in_state s).made x
    ≡ made_of s (is_ending (out-ExtendedState s).during (out-ExtendedState s).transitions) x
state_ends s x = ap (λ e. e.made x) (fold_out-ExtendedState EndingRegion EndingState region_step state_step s)

-- What private functions make: what is put into a state whose name and marks stand already.
use Rattle.std.specs.Prelude.{ℕ, ◌+◌, Bool, true, false, Option, List, [], ◌∷◌, ◌++◌, map}
use Rattle.core_charts.specs.declared.region.Transition.{Transition}
use Rattle.extended_charts.specs.declared.extended.ExtendedState.{ExtendedState}
use Rattle.extended_charts.specs.declared.extended.ExtendedRegion.TheViews.{out-ExtendedState, roll-ExtendedState}
use Rattle.extended_charts.specs.Making.{has_some}
use Rattle.chart_reduction.specs.declared.entries.histories.Past.{Past}
use Rattle.chart_reduction.specs.declared.entries.histories.EnclosingRegion.{EnclosingRegion}
use Rattle.chart_reduction.specs.declared.entries.leaving.Leaving.{Leaving}
use Rattle.chart_reduction.specs.Exits as exits
use Rattle.chart_reduction.specs.Exits.{LeftRegion, own_note, parting, left_transitions, left_in, left_region, left_state}
use Rattle.chart_reduction.specs.Histories as histories
use Rattle.chart_reduction.specs.Histories.{entering, led, history_of, resumption, past_region}

-- the transition that leads to this place behind, where what it makes is made
abbrev pub led_to : (place : ℕ) → Transition → Transition
led_to place t = record t { effects = []; target = place }

-- the variable in which a region notes where it is, if it does
abbrev pub note_of : (x : ℕ) → LeftRegion → Option ℕ
note_of x r = own_note (x + r.inside) (has_some r.exits)

-- what is left of the regions in a state as it is left itself
abbrev pub own_leavings : (x : ℕ) → ExtendedState → List Leaving
own_leavings x s = left_in (out-ExtendedState s).is_own ((left_state s).leavings x)

-- its transitions
abbrev pub own_transitions : (own : Option ℕ) → (x place : ℕ) → ExtendedState → List Transition
own_transitions own x place s =
    left_transitions place (own_leavings x s) (parting own (out-ExtendedState s).exit) (out-ExtendedState s).transitions

abbrev pub fill_left : (own : Option ℕ) → (number x place : ℕ) → (s left : ExtendedState) → ExtendedState
fill_left own number x place s left =
    roll-ExtendedState (record (out-ExtendedState left) {
      entry = ((out-ExtendedState left).entry ++ exits.noted own number (out-ExtendedState s).exit) ++ (out-ExtendedState s).entry;
      regions = (out-ExtendedState left).regions ++ exits.all_regions x (map left_region (out-ExtendedState s).regions);
      transitions = (out-ExtendedState left).transitions ++ own_transitions own x place s;
    })

-- the transition to a state of a region that goes on where it was
abbrev pub own_resumption : Past → (place : ℕ) → (is_initial : Bool) → List Transition
own_resumption past place true = []
own_resumption past place false = resumption past place ∷ []

abbrev pub fill_past : EnclosingRegion → (is_recalled : Bool) → (place x : ℕ) → (s past : ExtendedState) → ExtendedState
fill_past at is_recalled place x s past =
    roll-ExtendedState (record (out-ExtendedState past) {
      entry =
          (((out-ExtendedState past).entry ++ histories.noted at.own place) ++ entering at.asked is_recalled)
          ++ (out-ExtendedState s).entry;
      exit = (out-ExtendedState past).exit ++ (out-ExtendedState s).exit;
      during = (out-ExtendedState past).during ++ (out-ExtendedState s).during;
      regions =
          (out-ExtendedState past).regions
          ++ histories.all_regions (history_of at.asked is_recalled) x (map past_region (out-ExtendedState s).regions);
      transitions = (out-ExtendedState past).transitions ++ map (led at) (out-ExtendedState s).transitions;
    })

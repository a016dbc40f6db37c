-- Terminations with triggers. The regions of a superstate that has such a one go one level deeper: it gets one region, whose
-- initial state has them. When they have ended, a state behind it waits for the trigger, and leads to a final one. So the
-- superstate rests until then, its aborts are tested, and its termination needs no trigger.
use Rattle.std.specs.Prelude.{true, false, Bool, Option, Some, None, List, [], ◌∷◌, map, codes, if◌then◌else◌}
use Rattle.sc_values.specs.declared.expression.Expr.{Expr}
use Rattle.core_charts.specs.Tests.{is_join}
use Rattle.core_charts.specs.declared.region.Transition.{Transition}
use Rattle.core_charts.specs.declared.region.TransitionKind.TheVariants as kind
use Rattle.extended_charts.specs.declared.extended.ExtendedChart.{ExtendedChart}
use Rattle.extended_charts.specs.declared.extended.ExtendedRegion.{ExtendedRegion}
use Rattle.extended_charts.specs.declared.extended.ExtendedState.{ExtendedState}
use Rattle.extended_charts.specs.declared.extended.ExtendedRegion.TheOpen.{ExtendedState-F}
use Rattle.extended_charts.specs.declared.extended.ExtendedRegion.TheViews.{out-ExtendedState, roll-ExtendedRegion, roll-ExtendedState}
use Rattle.extended_charts.specs.declared.extended.ExtendedRegion.TheFolds.{fold-ExtendedRegion, fold-ExtendedState}
use Rattle.extended_charts.specs.Making.{always, made_state, region}

-- the trigger of the termination, if it has one
abbrev pub condition : List Transition → Option Expr
condition [] = None
condition (t ∷ transitions) = if is_join t.kind then t.trigger else condition transitions

-- a termination without its trigger
abbrev pub untested : Transition → Transition
untested t = record t { trigger = if is_join t.kind then None else t.trigger }

-- ---- the region: its states are at the places 0, 1 and 2

abbrev pub body : List ExtendedRegion → ExtendedState
body regions = made_state (codes "body__1") true regions (record (always false [] 1) { kind = kind.Join } ∷ [])

abbrev pub tested : (immediate : Bool) → Expr → Transition
tested immediate trigger = record (always immediate [] 2) { trigger = Some trigger }

-- it tests the trigger in the tick in which it is entered, and in each later one
abbrev pub hold : Expr → ExtendedState
hold trigger = made_state (codes "hold__1") false [] (tested true trigger ∷ tested false trigger ∷ [])

abbrev pub ended : ExtendedState
ended =
    roll-ExtendedState (record {
      name = codes "end__1";
      is_own = false;
      is_initial = false;
      is_final = true;
      entry = [];
      exit = [];
      during = [];
      regions = [];
      transitions = [];
    })

abbrev pub held : Option Expr → List ExtendedRegion → List ExtendedRegion
held None regions = regions
held (Some trigger) regions =
    region (codes "body__1") (body regions ∷ hold trigger ∷ ended ∷ []) ∷ []

-- ---- states, regions and charts

abbrev pub state_step : ExtendedState-F ExtendedRegion ExtendedState → ExtendedState
state_step s =
    roll-ExtendedState (record s {
      during = [];
      regions = held (condition s.transitions) s.regions;
      transitions = map untested s.transitions;
    })

abbrev pub held_region : ExtendedRegion → ExtendedRegion
held_region = fold-ExtendedRegion ExtendedRegion ExtendedState roll-ExtendedRegion state_step

abbrev pub held_state : ExtendedState → ExtendedState
held_state = fold-ExtendedState ExtendedRegion ExtendedState roll-ExtendedRegion state_step

-- what a state has instead of its regions
abbrev pub held_inside : ExtendedState → List ExtendedRegion
held_inside s = held (condition (out-ExtendedState s).transitions) (map held_region (out-ExtendedState s).regions)

-- the chart whose terminations have no triggers
abbrev pub with_holds : ExtendedChart → ExtendedChart
with_holds c = record c { regions = map held_region c.regions }

-- During actions. A state that has some gets one more region, which makes them one behind the other: in the tick of the entry
-- those that are immediate, and in each later tick all. So a simple state becomes a superstate, and each `go` that leaves it
-- a weak abort, which is tested behind what is inside.
use Rattle.std.specs.Prelude.{ℕ, suc, ◌+◌, ◌==◌, true, false, Option, Some, None, List, [], ◌∷◌, ◌++◌, map, length, codes, if◌then◌else◌}
use Rattle.sc_values.specs.declared.expression.Expr.{Expr}
use Rattle.core_charts.specs.declared.region.Effect.{Effect}
use Rattle.core_charts.specs.declared.region.Transition.{Transition}
use Rattle.core_charts.specs.declared.region.TransitionKind.{TransitionKind}
use Rattle.core_charts.specs.declared.region.TransitionKind.TheVariants as kind
use Rattle.extended_charts.specs.declared.extended.During.{During}
use Rattle.extended_charts.specs.declared.extended.ExtendedChart.{ExtendedChart}
use Rattle.extended_charts.specs.declared.extended.ExtendedRegion.{ExtendedRegion}
use Rattle.extended_charts.specs.declared.extended.ExtendedState.{ExtendedState}
use Rattle.extended_charts.specs.declared.extended.ExtendedRegion.TheOpen.{ExtendedState-F}
use Rattle.extended_charts.specs.declared.extended.ExtendedRegion.TheViews.{roll-ExtendedRegion, roll-ExtendedState}
use Rattle.extended_charts.specs.declared.extended.ExtendedRegion.TheFolds.{fold-ExtendedRegion, fold-ExtendedState}
use Rattle.sc_text.specs.MadeNames.{numbered}
use Rattle.extended_charts.specs.Making.{has_some, always, made_state, passing, region}

-- ---- one action

-- what is done where the trigger is true, and nothing else where there is one
abbrev pub ways_on : Option Expr → List Effect → (target : ℕ) → List Transition
ways_on None effects target = always true effects target ∷ []
ways_on (Some trigger) effects target =
    record (always true effects target) { trigger = Some trigger } ∷ always true [] target ∷ []

-- the state of this place, which makes the action and leads to the place behind it
abbrev pub step : (place : ℕ) → During → ExtendedState
step place d = made_state (numbered (codes "step__") place) (place == 0) [] (ways_on d.trigger d.effects (suc place))

-- states from this place on that make these actions, one after the other
abbrev pub steps : (place : ℕ) → List During → List ExtendedState
steps place [] = []
steps place (d ∷ durings) = step place d ∷ steps (suc place) durings

-- ---- the region

abbrev pub immediate_ones : List During → List During
immediate_ones [] = []
immediate_ones (d ∷ durings) = if d.immediate then d ∷ immediate_ones durings else immediate_ones durings

-- Those that are immediate lead to the place `wait`, from which the next tick goes on. Behind that stand all, and lead to a
-- state from which each later tick goes through them again
abbrev pub during_states : (wait : ℕ) → (first all : List During) → List ExtendedState
during_states wait first all =
    ((steps 0 first ++ passing false wait [] (suc wait) ∷ []) ++ steps (suc wait) all)
    ++ passing false (suc wait + length all) [] (suc wait) ∷ []

abbrev pub during_region : List During → ExtendedRegion
during_region durings =
    region (codes "during__1") (during_states (length (immediate_ones durings)) (immediate_ones durings) durings)

-- ---- states, regions and charts

abbrev pub with_region : List During → List ExtendedRegion → List ExtendedRegion
with_region durings regions = if has_some durings then regions ++ during_region durings ∷ [] else regions

abbrev pub weak_for : TransitionKind → TransitionKind
weak_for kind.Go = kind.Weak
weak_for other = other

abbrev pub weakened : Transition → Transition
weakened t = record t { kind = weak_for t.kind }

abbrev pub tested_behind : List During → List Transition → List Transition
tested_behind durings transitions = if has_some durings then map weakened transitions else transitions

abbrev pub state_step : ExtendedState-F ExtendedRegion ExtendedState → ExtendedState
state_step s =
    roll-ExtendedState (record s {
      during = [];
      regions = with_region s.during s.regions;
      transitions = tested_behind s.during s.transitions;
    })

abbrev pub acting_region : ExtendedRegion → ExtendedRegion
acting_region = fold-ExtendedRegion ExtendedRegion ExtendedState roll-ExtendedRegion state_step

abbrev pub acting_state : ExtendedState → ExtendedState
acting_state = fold-ExtendedState ExtendedRegion ExtendedState roll-ExtendedRegion state_step

-- the chart whose regions make the during actions
abbrev pub with_durings : ExtendedChart → ExtendedChart
with_durings c = record c { regions = map acting_region c.regions }

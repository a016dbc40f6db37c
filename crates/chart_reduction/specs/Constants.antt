-- Constants: each stands for its literal, in triggers, effects and conditions of counts.
use Rattle.std.specs.Prelude.{ℕ, Option, Some, None, List, [], ◌++◌, map}
use Rattle.sc_values.specs.declared.value.Value.{Value}
use Rattle.core_charts.specs.declared.region.Effect.{Effect}
use Rattle.core_charts.specs.declared.region.Transition.{Transition}
use Rattle.extended_charts.specs.declared.extended.Constant.{Constant}
use Rattle.extended_charts.specs.declared.extended.Declared.{Declared}
use Rattle.extended_charts.specs.declared.extended.During.{During}
use Rattle.extended_charts.specs.declared.extended.ExtendedChart.{ExtendedChart}
use Rattle.extended_charts.specs.declared.extended.ExtendedRegion.{ExtendedRegion}
use Rattle.extended_charts.specs.declared.extended.ExtendedState.{ExtendedState}
use Rattle.extended_charts.specs.declared.extended.ExtendedRegion.TheOpen.{ExtendedState-F}
use Rattle.extended_charts.specs.declared.extended.ExtendedRegion.TheViews.{roll-ExtendedRegion, roll-ExtendedState}
use Rattle.extended_charts.specs.declared.extended.ExtendedRegion.TheFolds.{fold-ExtendedRegion, fold-ExtendedState}
use Rattle.extended_charts.specs.declared.reading.Reading.{Reading}
use Rattle.extended_charts.specs.declared.reading.Reading.TheVariants as reading
use Rattle.extended_charts.specs.Reading.{replaced, replaced_trigger}

-- what has no value, as variables and what they were before
abbrev pub unvalued : {A : Type 0} → List A → List (Option Value)
unvalued xs = map (λ x. None) xs

-- the value of each number of an expression that has one
abbrev pub named_values : List Declared → (befores : List ℕ) → List Constant → List (Option Value)
named_values variables befores constants =
    unvalued variables ++ unvalued befores ++ map (λ c. Some c.value) constants

abbrev pub valued_effect : Reading → Effect → Effect
valued_effect r e = record e { value = replaced r e.value }

abbrev pub valued_during : Reading → During → During
valued_during r d = record d { trigger = replaced_trigger r d.trigger; effects = map (valued_effect r) d.effects }

abbrev pub valued_transition : Reading → Transition → Transition
valued_transition r t =
    record t { trigger = replaced_trigger r t.trigger; effects = map (valued_effect r) t.effects }

abbrev pub state_step : Reading → ExtendedState-F ExtendedRegion ExtendedState → ExtendedState
state_step r s =
    roll-ExtendedState (record s {
      entry = map (valued_effect r) s.entry;
      exit = map (valued_effect r) s.exit;
      during = map (valued_during r) s.during;
      transitions = map (valued_transition r) s.transitions;
    })

abbrev pub valued_region : Reading → ExtendedRegion → ExtendedRegion
valued_region r = fold-ExtendedRegion ExtendedRegion ExtendedState roll-ExtendedRegion (state_step r)

abbrev pub valued_state : Reading → ExtendedState → ExtendedState
valued_state r = fold-ExtendedState ExtendedRegion ExtendedState roll-ExtendedRegion (state_step r)

-- the chart that reads so, and then lacks constants
abbrev pub valued_chart : Reading → ExtendedChart → ExtendedChart
valued_chart r c = record c { constants = []; counts = map (replaced r) c.counts; regions = map (valued_region r) c.regions }

-- the chart with the literals of its constants
abbrev pub without_constants : ExtendedChart → ExtendedChart
without_constants c = valued_chart (reading.Values (named_values c.variables c.befores c.constants)) c

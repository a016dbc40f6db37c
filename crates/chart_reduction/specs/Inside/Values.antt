-- What private functions make: what is put into a state whose name and marks stand already, and into a chart that has a name
-- alone; and the ways of a count.
use Rattle.std.specs.Prelude.{ℕ, Bool, true, false, ◌+◌, Some, List, [], ◌∷◌, ◌++◌, map, codes}
use Rattle.sc_values.specs.declared.expression.Expr.TheVariants as expr
use Rattle.core_charts.specs.declared.region.Transition.{Transition}
use Rattle.extended_charts.specs.declared.extended.ExtendedChart.{ExtendedChart}
use Rattle.extended_charts.specs.declared.extended.ExtendedRegion.{ExtendedRegion}
use Rattle.extended_charts.specs.declared.extended.ExtendedState.{ExtendedState}
use Rattle.extended_charts.specs.declared.extended.ExtendedRegion.TheViews.{out-ExtendedState, roll-ExtendedState}
use Rattle.extended_charts.specs.declared.reading.Reading.{Reading}
use Rattle.extended_charts.specs.declared.reading.Reading.TheVariants as reading
use Rattle.extended_charts.specs.Reading.{replaced}
use Rattle.extended_charts.specs.Making.{one, always, made_state}
use Rattle.chart_reduction.specs.Clocks.{ask_time, noting, timed_by, timed_transition, timed_region, all_regions, one_more}
use Rattle.chart_reduction.specs.Constants.{valued_effect, valued_during, valued_transition, valued_region}
use Rattle.chart_reduction.specs.Counts.{total_of, entered_of, tellings, counted_region, none_yet}
use Rattle.chart_reduction.specs.Endings as endings
use Rattle.chart_reduction.specs.Endings.{is_ending, beginning, left_durings, inside, left_transitions, ending_in_region}

abbrev pub fill_valued : Reading → (s valued : ExtendedState) → ExtendedState
fill_valued r s valued =
    roll-ExtendedState (record (out-ExtendedState valued) {
      entry = (out-ExtendedState valued).entry ++ map (valued_effect r) (out-ExtendedState s).entry;
      exit = (out-ExtendedState valued).exit ++ map (valued_effect r) (out-ExtendedState s).exit;
      during = (out-ExtendedState valued).during ++ map (valued_during r) (out-ExtendedState s).during;
      regions = (out-ExtendedState valued).regions ++ map (valued_region r) (out-ExtendedState s).regions;
      transitions = (out-ExtendedState valued).transitions ++ map (valued_transition r) (out-ExtendedState s).transitions;
    })

abbrev pub fill_chart : Reading → (c valued : ExtendedChart) → ExtendedChart
fill_chart r c valued =
    record valued {
      variables = c.variables;
      signals = c.signals;
      befores = c.befores;
      counts = valued.counts ++ map (replaced r) c.counts;
      regions = valued.regions ++ map (valued_region r) c.regions;
    }

-- the state that adds 1 to the time
abbrev pub clock_state : (now : ℕ) → ExtendedState
clock_state now = made_state (codes "tick__1") true [] (always false (one_more now ∷ []) 0 ∷ [])

abbrev pub fill_timed : (now at : ℕ) → (s timed : ExtendedState) → ExtendedState
fill_timed now at s timed =
    roll-ExtendedState (record (out-ExtendedState timed) {
      entry =
          ((out-ExtendedState timed).entry ++ noting (ask_time (out-ExtendedState s).transitions) now at)
          ++ (out-ExtendedState s).entry;
      exit = (out-ExtendedState timed).exit ++ (out-ExtendedState s).exit;
      regions =
          (out-ExtendedState timed).regions ++
          all_regions now (at + one (ask_time (out-ExtendedState s).transitions)) (map timed_region (out-ExtendedState s).regions);
      transitions = (out-ExtendedState timed).transitions ++ map (timed_transition now at) (out-ExtendedState s).transitions;
    })

abbrev pub fill_counted : (first counts : ℕ) → (s counted : ExtendedState) → ExtendedState
fill_counted first n s counted =
    roll-ExtendedState (record (out-ExtendedState counted) {
      entry =
          ((out-ExtendedState counted).entry ++ tellings first n (out-ExtendedState s).transitions) ++ (out-ExtendedState s).entry;
      exit = (out-ExtendedState counted).exit ++ (out-ExtendedState s).exit;
      regions = (out-ExtendedState counted).regions ++ map (counted_region first n) (out-ExtendedState s).regions;
      transitions =
          (out-ExtendedState counted).transitions ++ map (timed_by (reading.Counted first n)) (out-ExtendedState s).transitions;
    })

-- the way on of a count whose state was entered
abbrev pub anew : (count target : ℕ) → Transition
anew count target =
    record (always true (none_yet (total_of count) ∷ []) target) { trigger = Some (expr.Load (entered_of count)) }

-- the regions of a state, one level deeper where it is left by a termination
abbrev pub deeper : (ends : Bool) → (done x : ℕ) → ExtendedState → List ExtendedRegion
deeper ends done x s =
    inside ends done (out-ExtendedState s).during (out-ExtendedState s).transitions
    (endings.all_regions (x + one ends) (map ending_in_region (out-ExtendedState s).regions))

-- a state, where it is left by a termination or not
abbrev fill_where : (ends : Bool) → (x : ℕ) → (s changed : ExtendedState) → ExtendedState
fill_where ends x s changed =
    roll-ExtendedState (record (out-ExtendedState changed) {
      entry = ((out-ExtendedState changed).entry ++ beginning ends x) ++ (out-ExtendedState s).entry;
      exit = (out-ExtendedState changed).exit ++ (out-ExtendedState s).exit;
      during = (out-ExtendedState changed).during ++ left_durings ends (out-ExtendedState s).during;
      regions = (out-ExtendedState changed).regions ++ deeper ends x x s;
      transitions = (out-ExtendedState changed).transitions ++ left_transitions ends (out-ExtendedState s).transitions;
    })

abbrev pub fill_ending : (x : ℕ) → (s changed : ExtendedState) → ExtendedState
fill_ending x s changed =
    fill_where (is_ending (out-ExtendedState s).during (out-ExtendedState s).transitions) x s changed

-- The ticks since a state was entered: one more region adds 1 to the time in each tick; a state that asks notes the time as
-- the first of its entry actions; and in its triggers the time now less that stands for the ticks since.
use Rattle.std.specs.Prelude.{ℕ, suc, pos, ◌+◌, ◌==◌, Bool, true, false, Option, Some, None, List, [], ◌∷◌, ◌++◌, map, sum_by, length, codes}
use Rattle.std.specs.Prelude.{if◌then◌else◌}
use Rattle.std.specs.List.{list_any}
use Rattle.sc_values.specs.declared.value.Value.TheVariants as value
use Rattle.sc_values.specs.declared.value.Kind.TheVariants as of_kind
use Rattle.sc_values.specs.declared.operator.BinaryOperator.TheVariants as operator
use Rattle.sc_values.specs.declared.expression.Expr.{Expr}
use Rattle.sc_values.specs.declared.expression.Expr.TheVariants as expr
use Rattle.sc_values.specs.Assignment.{is_read}
use Rattle.core_charts.specs.declared.region.Effect.{Effect}
use Rattle.core_charts.specs.declared.region.Transition.{Transition}
use Rattle.extended_charts.specs.declared.extended.ExtendedChart.{ExtendedChart}
use Rattle.extended_charts.specs.declared.extended.ExtendedRegion.{ExtendedRegion}
use Rattle.extended_charts.specs.declared.extended.ExtendedState.{ExtendedState}
use Rattle.extended_charts.specs.declared.extended.ExtendedRegion.TheOpen.{ExtendedRegion-F, ExtendedState-F}
use Rattle.extended_charts.specs.declared.extended.ExtendedRegion.TheViews.{roll-ExtendedState}
use Rattle.extended_charts.specs.declared.extended.ExtendedRegion.TheFolds.{fold-ExtendedRegion, fold-ExtendedState}
use Rattle.extended_charts.specs.declared.reading.Reading.{Reading}
use Rattle.extended_charts.specs.declared.reading.Reading.TheVariants as reading
use Rattle.extended_charts.specs.Reading.{elapsed, replaced_trigger}
use Rattle.extended_charts.specs.Making.{one, local, integers, copy, always, made_state, region}
use Rattle.extended_charts.specs.Walks.{walk}

-- ---- who asks

abbrev pub asks_time : Option Expr → Bool
asks_time (Some e) = is_read elapsed e
asks_time None = false

-- whether a trigger of these asks for the ticks since the state was entered
abbrev pub ask_time : List Transition → Bool
ask_time transitions = list_any (λ t. asks_time t.trigger) transitions

-- ---- states and regions: how many of their states ask, and what is made of them, where a variable is the time now, and
-- others from this one on note at which their states were entered

pub record TimedRegion : Type 0 where
  pub clocks : ℕ
  pub made : (now at : ℕ) → ExtendedRegion

pub record TimedState : Type 0 where
  pub clocks : ℕ
  pub made : (now at : ℕ) → ExtendedState

abbrev pub clocks_in : List TimedRegion → ℕ
clocks_in regions = sum_by (λ (r : TimedRegion). r.clocks) regions

abbrev pub clocks_among : List TimedState → ℕ
clocks_among states = sum_by (λ (s : TimedState). s.clocks) states

abbrev pub all_regions : (now at : ℕ) → List TimedRegion → List ExtendedRegion
all_regions now at regions = walk (λ (r : TimedRegion). r.clocks) (λ r x. r.made now x ∷ []) at regions

abbrev pub all_states : (now at : ℕ) → List TimedState → List ExtendedState
all_states now at states = walk (λ (s : TimedState). s.clocks) (λ s x. s.made now x ∷ []) at states

abbrev pub noting : Bool → (now at : ℕ) → List Effect
noting true now at = copy at now ∷ []
noting false now at = []

abbrev pub timed_by : Reading → Transition → Transition
timed_by r t = record t { trigger = replaced_trigger r t.trigger }

abbrev pub timed_transition : (now at : ℕ) → Transition → Transition
timed_transition now at = timed_by (reading.Elapsed now at)

abbrev pub state_step : ExtendedState-F TimedRegion TimedState → TimedState
state_step s =
    record {
      clocks = one (ask_time s.transitions) + clocks_in s.regions;
      made = λ now at. roll-ExtendedState (record {
        name = s.name;
        is_own = s.is_own;
        is_initial = s.is_initial;
        is_final = s.is_final;
        entry = noting (ask_time s.transitions) now at ++ s.entry;
        exit = s.exit;
        during = [];
        regions = all_regions now (at + one (ask_time s.transitions)) s.regions;
        transitions = map (timed_transition now at) s.transitions;
      });
    }

abbrev pub region_step : ExtendedRegion-F TimedRegion TimedState → TimedRegion
region_step r =
    record { clocks = clocks_among r.states; made = λ now at. region r.name (all_states now at r.states) }

abbrev pub timed_region : ExtendedRegion → TimedRegion
timed_region = fold-ExtendedRegion TimedRegion TimedState region_step state_step

abbrev pub timed_state : ExtendedState → TimedState
timed_state = fold-ExtendedState TimedRegion TimedState region_step state_step

-- ---- charts

abbrev pub one_more : (now : ℕ) → Effect
one_more now =
    record {
      variable = now;
      value = expr.Binary operator.Add (expr.Load now) (expr.Literal (value.Int (pos 1)));
    }

-- it adds 1 to the time in each tick but the first
abbrev pub clock_region : (now : ℕ) → ExtendedRegion
clock_region now =
    region (codes "clock__1") (made_state (codes "tick__1") true [] (always false (one_more now ∷ []) 0 ∷ []) ∷ [])

-- of which so many states ask, and note the times at which they were entered
abbrev pub clocked : (clocks : ℕ) → ExtendedChart → ExtendedChart
clocked count c =
    record c {
      variables = c.variables ++ local (codes "now__1") of_kind.Int None ∷ integers (codes "at__") count;
      regions =
          all_regions (length c.variables) (suc (length c.variables)) (map timed_region c.regions) ++
          clock_region (length c.variables) ∷ [];
    }

-- the chart in which triggers read variables for the ticks since their states were entered
abbrev pub with_clocks : ExtendedChart → ExtendedChart
with_clocks c =
    if clocks_in (map timed_region c.regions) == 0 then c else clocked (clocks_in (map timed_region c.regions)) c

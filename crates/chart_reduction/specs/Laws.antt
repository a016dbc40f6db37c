-- What holds of all reductions.
use Rattle.std.specs.Prelude.{ℕ, ◌≡◌, true, false, None, [], map}
use Rattle.sc_graph.specs.declared.program.Variable.{Variable}
use Rattle.core_charts.specs.declared.features.Features.TheVariants as features
use Rattle.core_charts.specs.declared.region.Region.{Region}
use Rattle.core_charts.specs.declared.region.State.{State}
use Rattle.core_charts.specs.declared.region.Region.TheOpen.{Region-F, State-F}
use Rattle.core_charts.specs.declared.region.Region.TheFolds.{fold-Region, fold-State}
use Rattle.core_charts.specs.Chart.{Chart}
use Rattle.core_charts.specs.Rules.{IsChart}
use Rattle.extended_charts.specs.declared.extended.Declared.{Declared}
use Rattle.extended_charts.specs.declared.extended.ExtendedChart.{ExtendedChart}
use Rattle.extended_charts.specs.declared.extended.ExtendedRegion.{ExtendedRegion}
use Rattle.extended_charts.specs.declared.extended.ExtendedState.{ExtendedState}
use Rattle.extended_charts.specs.declared.extended.ExtendedRegion.TheViews.{roll-ExtendedRegion, roll-ExtendedState}
use Rattle.chart_reduction.specs.Reduction.{with_entry, reduced}
use Rattle.sc_values.specs.declared.value.Value.TheVariants as value
use Rattle.sc_values.specs.declared.operator.Combination.TheVariants as combine
use Rattle.sc_values.specs.declared.expression.Expr.TheVariants as expr
use Rattle.sc_values.specs.Assignment.{assignment_of, Inits, Combines}
use Rattle.extended_charts.specs.Signals.{emission, reset}

-- a signal is made false by an init and emitted by an update. So where both are done in a tick, the init comes first, and
-- what reads the signal comes behind both
pub record SignalsAreUpdated : Type 0 where
  pub is_reset : (signal : ℕ) → assignment_of signal (reset signal).value ≡ Inits (expr.Literal (value.Bool false))
  pub is_emitted : (signal : ℕ) → assignment_of signal (emission signal).value ≡ Combines combine.Or (expr.Literal (value.Bool true))

-- ---- the extended chart that has what a chart has, and nothing else

abbrev pub plain_state : State-F ExtendedRegion ExtendedState → ExtendedState
plain_state s =
    roll-ExtendedState (record {
      name = s.name;
      is_own = true;
      is_initial = s.is_initial;
      is_final = s.is_final;
      entry = [];
      exit = [];
      during = [];
      regions = s.regions;
      transitions = s.transitions;
    })

abbrev pub plain_region : Region-F ExtendedRegion ExtendedState → ExtendedRegion
plain_region r = roll-ExtendedRegion (record { name = r.name; states = r.states })

abbrev pub of_region : Region → ExtendedRegion
of_region = fold-Region ExtendedRegion ExtendedState plain_region plain_state

abbrev pub of_state : State → ExtendedState
of_state = fold-State ExtendedRegion ExtendedState plain_region plain_state

abbrev pub of_variable : Variable → Declared
of_variable v = record { variable = v; initial = None }

abbrev pub of_chart : Chart → ExtendedChart
of_chart c =
    record {
      name = c.name;
      variables = map of_variable c.variables;
      signals = [];
      befores = [];
      constants = [];
      counts = [];
      regions = map of_region c.regions;
    }

-- a chart without any construct is reduced to itself: no pass adds anything to it
pub record ChartsStay : Type 0 where
  pub nothing_is_added : (c : Chart) → IsChart features.Extended c → with_entry (of_chart c) ≡ of_chart c
  pub stays : (c : Chart) → IsChart features.Extended c → reduced (of_chart c) ≡ c

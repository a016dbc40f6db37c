-- The chart to which an extended chart is reduced. The passes come in this order: constants, signals, what variables were
-- before, histories, during actions that end, during actions, counts, the ticks since a state was entered, exit actions, terminations with triggers,
-- initial values, entry actions. No pass behind that of during actions keeps any.
use Rattle.std.specs.Prelude.{◌≡◌, map}
use Rattle.core_charts.specs.declared.features.Features.TheVariants as features
use Rattle.core_charts.specs.Chart.{Chart}
use Rattle.core_charts.specs.Rules.{IsChart}
use Rattle.extended_charts.specs.declared.extended.ExtendedChart.{ExtendedChart}
use Rattle.chart_reduction.specs.declared.rows.AuthorRows.{AuthorRows}
use Rattle.chart_reduction.specs.declared.fault.ReduceFault.{ReduceFault}
use Rattle.chart_reduction.specs.declared.fault.ReduceFault.TheVariants as fault
use Rattle.chart_reduction.specs.Constants.{without_constants}
use Rattle.extended_charts.specs.Signals.{with_signals}
use Rattle.chart_reduction.specs.Registers.{with_registers}
use Rattle.chart_reduction.specs.Histories.{with_histories}
use Rattle.chart_reduction.specs.Endings.{with_endings}
use Rattle.extended_charts.specs.Durings.{with_durings}
use Rattle.chart_reduction.specs.Counts.{with_counts}
use Rattle.chart_reduction.specs.Clocks.{with_clocks}
use Rattle.chart_reduction.specs.Exits.{with_exits}
use Rattle.extended_charts.specs.Holds.{with_holds}
use Rattle.chart_reduction.specs.Initial.{with_settings}
use Rattle.chart_reduction.specs.Entry.{without_entry}
use Rattle.chart_reduction.specs.Rows.{rows_of}

-- the chart whose triggers and effects name nothing but variables, ticks and counts
abbrev pub with_variables : ExtendedChart → ExtendedChart
with_variables c = with_registers (with_signals (without_constants c))

-- the chart that has nothing but entry actions left
abbrev pub with_entry : ExtendedChart → ExtendedChart
with_entry c =
    with_settings (with_holds (with_exits (with_clocks (with_counts (with_durings (with_endings (with_histories (with_variables c))))))))

-- the chart of one that has nothing but entry actions
abbrev pub chart_of : ExtendedChart → Chart
chart_of c =
    record {
      name = c.name;
      variables = map (λ d. d.variable) c.variables;
      regions = map without_entry c.regions;
    }

abbrev pub reduced : ExtendedChart → Chart
reduced c = chart_of (with_entry c)

-- what is made of an extended chart: the chart, and which of its states and transitions are the author's
pub record IsReduction (c : ExtendedChart) (made : Chart) (rows : AuthorRows) : Type 0 where
  pub chart_is : made ≡ reduced c
  pub rows_are : rows ≡ rows_of (with_entry c).regions

-- it is reduced to no chart for this reason. A refusal of memory says nothing of the chart
abbrev pub LacksChart : ExtendedChart → ReduceFault → Type 0
LacksChart c fault.Limit = ¬ IsChart features.Extended (reduced c)
LacksChart c fault.Memory = Unit {0}

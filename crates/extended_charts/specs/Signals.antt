-- Signals: variables that are false in each tick until they are emitted. One more region makes them false when a tick
-- begins: these are inits. To emit one is to update it by `or`, which comes behind them, and before what reads it.
use Rattle.std.specs.Prelude.{ℕ, suc, true, false, List, [], ◌∷◌, ◌++◌, map, length, codes, if◌then◌else◌}
use Rattle.sc_values.specs.declared.value.Value.TheVariants as value
use Rattle.sc_values.specs.declared.operator.BinaryOperator.TheVariants as operator
use Rattle.sc_values.specs.declared.expression.Expr.TheVariants as expr
use Rattle.core_charts.specs.declared.region.Effect.{Effect}
use Rattle.extended_charts.specs.declared.extended.ExtendedChart.{ExtendedChart}
use Rattle.extended_charts.specs.declared.extended.ExtendedRegion.{ExtendedRegion}
use Rattle.extended_charts.specs.declared.extended.ExtendedState.{ExtendedState}
use Rattle.extended_charts.specs.Making.{has_some, passing, all_passing, region}

-- the signal is emitted
abbrev pub emission : (signal : ℕ) → Effect
emission signal =
    record {
      variable = signal;
      value = expr.Binary operator.Or (expr.Load signal) (expr.Literal (value.Bool true));
    }

-- the signal becomes false
abbrev pub reset : (signal : ℕ) → Effect
reset signal = record { variable = signal; value = expr.Literal (value.Bool false) }

abbrev pub resets : (signals : List ℕ) → List Effect
resets signals = map reset signals

-- it waits for the next tick, makes the signals false, and begins anew
abbrev pub signal_states : (signals : List ℕ) → List ExtendedState
signal_states signals = passing false 0 [] 1 ∷ all_passing 1 (resets signals) ++ passing true (suc (length signals)) [] 0 ∷ []

abbrev pub signal_region : (signals : List ℕ) → ExtendedRegion
signal_region signals = region (codes "signals__1") (signal_states signals)

abbrev pub signalled : ExtendedChart → ExtendedChart
signalled c = record c { signals = []; regions = c.regions ++ signal_region c.signals ∷ [] }

-- the chart in which signals are variables like others
abbrev pub with_signals : ExtendedChart → ExtendedChart
with_signals c = if has_some c.signals then signalled c else c

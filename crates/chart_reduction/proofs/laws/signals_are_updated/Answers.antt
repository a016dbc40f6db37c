use Rattle.extended_charts.proofs.Emitting.{reset_is_init, emission_is_update}
use Rattle.chart_reduction.proofs.laws.signals_are_updated.Goals as goal

pub returns : goal.returns
returns c = record { is_reset = reset_is_init; is_emitted = emission_is_update }

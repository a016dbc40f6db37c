use Rattle.chart_lowering_laws.proofs.Lowered.{chart_is_lowered}
use Rattle.chart_lowering_laws.proofs.Telling.{tells_states}
use Rattle.chart_lowering_laws.proofs.charts_are_lowered.Goals as goal

pub returns : goal.returns
returns c = record { lowers = chart_is_lowered; tells = tells_states }

use Rattle.chart_machine.specs.Table.{table}
use Rattle.scl.specs.Numbering.{numbered}
use Rattle.chart_lowering_laws.specs.Marks.{layout}
use Rattle.chart_lowering_laws.proofs.ActiveStates.{active_is}
use Rattle.chart_lowering_laws.proofs.Lowered.{chart_is_lowered}
use Rattle.chart_lowering_laws.proofs.Telling.{tells_states}
use Rattle.chart_lowering_laws.proofs.TicksKept.{keeps_runs}
use Rattle.chart_lowering_laws.proofs.charts_keep_ticks.Goals as goal

pub returns : goal.returns
returns c = record {
  runs = λ chart p low. keeps_runs (table chart) (numbered p) (layout chart (numbered p).root) (chart_is_lowered chart p low);
  active = λ chart p low. active_is (table chart) (numbered p) (layout chart (numbered p).root) (chart_is_lowered chart p low) (tells_states chart p low);
}

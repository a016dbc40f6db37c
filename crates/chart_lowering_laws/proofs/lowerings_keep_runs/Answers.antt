use Rattle.chart_lowering_laws.proofs.TicksKept.{keeps_runs}
use Rattle.chart_lowering_laws.proofs.lowerings_keep_runs.Goals as goal

pub returns : goal.returns
returns c = keeps_runs

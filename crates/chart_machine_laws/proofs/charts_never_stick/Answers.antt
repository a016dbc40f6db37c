use Rattle.chart_machine_laws.proofs.NeverStuck.{never_stuck}
use Rattle.chart_machine_laws.proofs.charts_never_stick.Goals as goal

pub returns : goal.returns
returns c = never_stuck

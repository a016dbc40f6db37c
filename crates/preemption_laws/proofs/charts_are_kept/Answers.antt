use Rattle.preemption_laws.proofs.Proved.{kept}
use Rattle.preemption_laws.proofs.charts_are_kept.Goals as goal

pub returns : goal.returns
returns c = kept

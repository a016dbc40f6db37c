use Rattle.preemption_laws.proofs.Proved.{does_no_more}
use Rattle.preemption_laws.proofs.core_charts_do_no_more.Goals as goal

pub returns : goal.returns
returns c = does_no_more

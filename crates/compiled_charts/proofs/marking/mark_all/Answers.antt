use Rattle.std.proofs.lemmas.Grind.{common_steps}
use Rattle.std.proofs.Common.{arith}
use Rattle.compiled_charts.proofs.marking.mark_all.Goals as goal

pub loop-status-preserved : goal.loop-status-preserved
loop-status-preserved c = grind (arith, common_steps) steps 2000000

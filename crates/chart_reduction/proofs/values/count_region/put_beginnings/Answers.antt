use Rattle.std.proofs.Common.{arith}
use Rattle.std.proofs.lemmas.Grind.{common_steps}
use Rattle.chart_reduction.proofs.values.count_region.put_beginnings.Goals as goal

pub loop-condition-preserved : goal.loop-condition-preserved
loop-condition-preserved c = grind (arith, common_steps) steps 2000000

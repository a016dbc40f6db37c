use Rattle.std.proofs.Common.{arith}
use Rattle.std.proofs.lemmas.Grind.{common_steps}
use Rattle.chart_machine.proofs.table.Table.put_dropped.Goals as goal

pub loop-region-preserved : goal.loop-region-preserved
loop-region-preserved c = grind (arith, common_steps) steps 2000000

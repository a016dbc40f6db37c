use Rattle.std.proofs.lemmas.Grind.{common_steps}
use Rattle.std.proofs.Common.{arith}
use Rattle.chart_machine.proofs.table.Table.all_woken.Goals as goal

pub loop-standing-preserved : goal.loop-standing-preserved
loop-standing-preserved c = grind (arith, common_steps) steps 2000000

pub returns : goal.returns
returns c = grind (arith, common_steps) steps 2000000

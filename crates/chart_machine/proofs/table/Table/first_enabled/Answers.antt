use Rattle.std.proofs.Common.{arith}
use Rattle.std.proofs.lemmas.Grind.{common_steps}
use Rattle.chart_machine.proofs.table.Table.first_enabled.Goals as goal

pub returns-then-branch : goal.returns-then-branch
returns-then-branch c = grind (arith, common_steps) steps 2000000

pub loop-region-preserved : goal.loop-region-preserved
loop-region-preserved c = grind (arith, common_steps) steps 2000000

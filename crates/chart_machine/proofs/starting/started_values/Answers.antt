use Rattle.std.proofs.lemmas.Grind.{common_steps}
use Rattle.std.proofs.Common.{arith}
use Rattle.chart_machine.proofs.starting.started_values.Goals as goal

pub returns-then-x-values : goal.returns-then-x-values
returns-then-x-values c = grind (arith, common_steps) steps 2000000

pub loop-x-preserved : goal.loop-x-preserved
loop-x-preserved c = grind (arith, common_steps) steps 2000000

pub returns : goal.returns
returns c = grind (arith, common_steps) steps 2000000

use Rattle.std.proofs.Common.{arith}
use Rattle.std.proofs.lemmas.Grind.{common_steps}
use Rattle.chart_reduction.proofs.rows.numbers.Goals as goal

pub returns : goal.returns
returns c = grind (arith, common_steps) steps 2000000

pub loop-is_own-preserved : goal.loop-is_own-preserved
loop-is_own-preserved c = grind (arith, common_steps) steps 2000000

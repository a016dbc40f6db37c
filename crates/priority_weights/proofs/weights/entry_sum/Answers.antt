use Rattle.std.proofs.Common.{arith}
use Rattle.std.proofs.lemmas.Grind.{common_steps}
use Rattle.priority_weights.proofs.weights.entry_sum.Goals as goal

pub loop-child-preserved : goal.loop-child-preserved
loop-child-preserved c = grind (arith, common_steps) steps 2000000

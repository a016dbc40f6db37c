use Rattle.std.proofs.Common.{arith}
use Rattle.std.proofs.lemmas.Grind.{common_steps}
use Rattle.node_elements.proofs.composing.point_elements.Goals as goal

pub loop-point-preserved : goal.loop-point-preserved
loop-point-preserved c = grind (arith, common_steps) steps 2000000

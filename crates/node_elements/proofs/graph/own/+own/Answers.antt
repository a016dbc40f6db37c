use Rattle.std.proofs.Common.{arith}
use Rattle.std.proofs.lemmas.Grind.{common_steps}
use Rattle.node_elements.proofs.graph.own.+own.Goals as goal

pub put_own-loop-statement-preserved : goal.put_own-loop-statement-preserved
put_own-loop-statement-preserved t c = grind (arith, common_steps) steps 2000000

use Rattle.std.proofs.Common.{arith}
use Rattle.std.proofs.lemmas.Grind.{common_steps}
use Rattle.node_elements.proofs.graph.below.+below.Goals as goal

pub put_below_of-loop-branch-preserved : goal.put_below_of-loop-branch-preserved
put_below_of-loop-branch-preserved t c = grind (arith, common_steps) steps 2000000

pub put_below-loop-statement-preserved : goal.put_below-loop-statement-preserved
put_below-loop-statement-preserved t c = grind (arith, common_steps) steps 2000000

pub put_below_of-returns-after-loop-branch-clause-origins : goal.put_below_of-returns-after-loop-branch-clause-origins
put_below_of-returns-after-loop-branch-clause-origins t c = grind (arith, common_steps) steps 2000000

pub put_below_of-returns-after-loop-branch-clause-next : goal.put_below_of-returns-after-loop-branch-clause-next
put_below_of-returns-after-loop-branch-clause-next t c = grind (arith, common_steps) steps 2000000

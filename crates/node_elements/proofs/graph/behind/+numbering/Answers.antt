use Rattle.std.proofs.Common.{arith}
use Rattle.std.proofs.lemmas.Grind.{common_steps}
use Rattle.node_elements.proofs.graph.behind.+numbering.Goals as goal

pub behind_row-loop-statement-preserved : goal.behind_row-loop-statement-preserved
behind_row-loop-statement-preserved t c = grind (arith, common_steps) steps 2000000

pub behind-returns-after-loop-branch : goal.behind-returns-after-loop-branch
behind-returns-after-loop-branch t c = grind (arith, common_steps) steps 2000000

pub behind-loop-branch-preserved : goal.behind-loop-branch-preserved
behind-loop-branch-preserved t c = grind (arith, common_steps) steps 2000000

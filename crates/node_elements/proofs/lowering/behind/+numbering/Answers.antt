use Rattle.std.proofs.Common.{arith}
use Rattle.std.proofs.lemmas.Grind.{common_steps}
use Rattle.node_elements.proofs.lowering.behind.+numbering.Goals as goal

pub behind_region-loop-state-preserved : goal.behind_region-loop-state-preserved
behind_region-loop-state-preserved t c = grind (arith, common_steps) steps 2000000

pub behind_state-loop-region-preserved : goal.behind_state-loop-region-preserved
behind_state-loop-region-preserved t c = grind (arith, common_steps) steps 2000000

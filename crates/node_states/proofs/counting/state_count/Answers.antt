use Rattle.std.proofs.lemmas.Grind.{common_steps}
use Rattle.std.proofs.Common.{arith}
use Rattle.node_states.proofs.counting.state_count.Goals as goal

pub loop-region-preserved : goal.loop-region-preserved
loop-region-preserved c = grind (arith, common_steps) steps 2000000

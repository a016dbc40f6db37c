use Rattle.std.proofs.lemmas.Grind.{common_steps}
use Rattle.std.proofs.Common.{arith}
use Rattle.node_states.proofs.counting.+counting.Goals as goal

pub state_states-loop-region-preserved : goal.state_states-loop-region-preserved
state_states-loop-region-preserved t c = grind (arith, common_steps) steps 2000000

pub region_states-loop-state-preserved : goal.region_states-loop-state-preserved
region_states-loop-state-preserved t c = grind (arith, common_steps) steps 2000000

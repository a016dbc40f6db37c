use Rattle.std.proofs.Common.{arith}
use Rattle.std.proofs.lemmas.Grind.{common_steps}
use Rattle.author_states.proofs.paths.+paths.Goals as goal

pub add_states-returns : goal.add_states-returns
add_states-returns t c = grind (arith, common_steps) steps 2000000

pub add_regions-returns : goal.add_regions-returns
add_regions-returns t c = grind (arith, common_steps) steps 2000000

pub add_states-loop-state-preserved : goal.add_states-loop-state-preserved
add_states-loop-state-preserved t c = grind (arith, common_steps) steps 2000000

pub add_regions-loop-region-preserved : goal.add_regions-loop-region-preserved
add_regions-loop-region-preserved t c = grind (arith, common_steps) steps 2000000

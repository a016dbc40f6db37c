use Rattle.std.proofs.Common.{arith}
use Rattle.std.proofs.lemmas.Grind.{common_steps}
use Rattle.chart_reduction.proofs.entries.exits.+left.Goals as goal

pub put_states-loop-state-preserved : goal.put_states-loop-state-preserved
put_states-loop-state-preserved t c = grind (arith, common_steps) steps 2000000

pub put_states-loop-state-smaller : goal.put_states-loop-state-smaller
put_states-loop-state-smaller t c = grind (arith, common_steps) steps 2000000

pub put_states-returns-clause-behind : goal.put_states-returns-clause-behind
put_states-returns-clause-behind t c = grind (arith, common_steps) steps 2000000

pub put_states-loop-state-init : goal.put_states-loop-state-init
put_states-loop-state-init t c = grind (arith, common_steps) steps 2000000

pub put_regions-loop-region-preserved : goal.put_regions-loop-region-preserved
put_regions-loop-region-preserved t c = grind (arith, common_steps) steps 2000000

pub put_states-returns-clause-states : goal.put_states-returns-clause-states
put_states-returns-clause-states t c = grind (arith, common_steps) steps 2000000

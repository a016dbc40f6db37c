use Rattle.std.proofs.Common.{arith}
use Rattle.std.proofs.lemmas.Grind.{common_steps}
use Rattle.node_elements.proofs.expansion.regions.+text.Goals as goal

pub put_states-loop-state-preserved : goal.put_states-loop-state-preserved
put_states-loop-state-preserved t c = grind (arith, common_steps) steps 2000000

pub put_regions-loop-region-preserved : goal.put_regions-loop-region-preserved
put_regions-loop-region-preserved t c = grind (arith, common_steps) steps 2000000

pub put_superstate-returns-clause-origins : goal.put_superstate-returns-clause-origins
put_superstate-returns-clause-origins t c = grind (arith, common_steps) steps 2000000

pub put_inside_region-returns-clause-origins : goal.put_inside_region-returns-clause-origins
put_inside_region-returns-clause-origins t c = grind (arith, common_steps) steps 2000000

pub put_region_over-returns-clause-origins : goal.put_region_over-returns-clause-origins
put_region_over-returns-clause-origins t c = grind (arith, common_steps) steps 2000000

pub put_inside-returns-clause-behind : goal.put_inside-returns-clause-behind
put_inside-returns-clause-behind t c = grind (arith, common_steps) steps 2000000

pub put_inside-returns-clause-origins : goal.put_inside-returns-clause-origins
put_inside-returns-clause-origins t c = grind (arith, common_steps) steps 2000000

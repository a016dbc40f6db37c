use Rattle.std.proofs.Common.{arith}
use Rattle.std.proofs.lemmas.Grind.{common_steps}
use Rattle.chart_reduction.proofs.values.counts.+counted.Goals as goal

pub put_regions-loop-region-preserved : goal.put_regions-loop-region-preserved
put_regions-loop-region-preserved t c = grind (arith, common_steps) steps 2000000

pub put_states-loop-state-preserved : goal.put_states-loop-state-preserved
put_states-loop-state-preserved t c = grind (arith, common_steps) steps 2000000

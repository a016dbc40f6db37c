use Rattle.std.proofs.Common.{arith}
use Rattle.std.proofs.lemmas.Grind.{common_steps}
use Rattle.chart_reduction.proofs.entries.leaving.+leaving.Goals as goal

pub put_leavings_among-loop-state-preserved : goal.put_leavings_among-loop-state-preserved
put_leavings_among-loop-state-preserved t c = grind (arith, common_steps) steps 2000000

pub put_leavings_in-loop-region-preserved : goal.put_leavings_in-loop-region-preserved
put_leavings_in-loop-region-preserved t c = grind (arith, common_steps) steps 2000000

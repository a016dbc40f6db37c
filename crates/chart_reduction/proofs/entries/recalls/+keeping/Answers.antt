use Rattle.std.proofs.Common.{arith}
use Rattle.std.proofs.lemmas.Grind.{common_steps}
use Rattle.chart_reduction.proofs.entries.recalls.+keeping.Goals as goal

pub put_kept_among-loop-state-preserved : goal.put_kept_among-loop-state-preserved
put_kept_among-loop-state-preserved t c = grind (arith, common_steps) steps 2000000

pub put_kept_in-loop-region-preserved : goal.put_kept_in-loop-region-preserved
put_kept_in-loop-region-preserved t c = grind (arith, common_steps) steps 2000000

use Rattle.std.proofs.Common.{arith}
use Rattle.std.proofs.lemmas.Grind.{common_steps}
use Rattle.chart_reduction.proofs.values.endings.+counting.Goals as goal

pub endings_in-loop-region-preserved : goal.endings_in-loop-region-preserved
endings_in-loop-region-preserved t c = grind (arith, common_steps) steps 2000000

pub region_endings-loop-state-preserved : goal.region_endings-loop-state-preserved
region_endings-loop-state-preserved t c = grind (arith, common_steps) steps 2000000

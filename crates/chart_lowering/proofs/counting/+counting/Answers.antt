use Rattle.std.proofs.lemmas.Grind.{common_steps}
use Rattle.std.proofs.Common.{arith}
use Rattle.chart_lowering.proofs.counting.+counting.Goals as goal

pub region_labels-loop-state-preserved : goal.region_labels-loop-state-preserved
region_labels-loop-state-preserved t c = grind (arith, common_steps) steps 2000000

pub region_labels-returns : goal.region_labels-returns
region_labels-returns t c = grind (arith, common_steps) steps 2000000

pub state_labels-loop-region-preserved : goal.state_labels-loop-region-preserved
state_labels-loop-region-preserved t c = grind (arith, common_steps) steps 2000000

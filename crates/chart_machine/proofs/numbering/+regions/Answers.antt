use Rattle.std.proofs.lemmas.Grind.{common_steps}
use Rattle.std.proofs.Common.{arith}
use Rattle.chart_machine.proofs.numbering.+regions.Goals as goal

pub past_region-loop-state-preserved : goal.past_region-loop-state-preserved
past_region-loop-state-preserved t c = grind (arith, common_steps) steps 2000000

pub past_region-returns : goal.past_region-returns
past_region-returns t c = grind (arith, common_steps) steps 2000000

pub past_regions-loop-region-preserved : goal.past_regions-loop-region-preserved
past_regions-loop-region-preserved t c = grind (arith, common_steps) steps 2000000

pub past_regions-returns : goal.past_regions-returns
past_regions-returns t c = grind (arith, common_steps) steps 2000000

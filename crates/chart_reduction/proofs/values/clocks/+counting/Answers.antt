use Rattle.std.proofs.lemmas.Grind.{common_steps}
use Rattle.std.proofs.Common.{arith}
use Rattle.chart_reduction.proofs.values.clocks.+counting.Goals as goal

pub clocks_in-loop-region-preserved : goal.clocks_in-loop-region-preserved
clocks_in-loop-region-preserved t c = grind (arith, common_steps) steps 2000000

pub clocks_in-returns : goal.clocks_in-returns
clocks_in-returns t c = grind (arith, common_steps) steps 2000000

pub region_clocks-loop-state-preserved : goal.region_clocks-loop-state-preserved
region_clocks-loop-state-preserved t c = grind (arith, common_steps) steps 2000000

pub region_clocks-returns : goal.region_clocks-returns
region_clocks-returns t c = grind (arith, common_steps) steps 2000000

use Rattle.std.proofs.Common.{arith}
use Rattle.std.proofs.lemmas.Grind.{common_steps}
use Rattle.core_charts.proofs.aborts.+aborts.Goals as goal

pub region_has_aborts-loop-state-preserved : goal.region_has_aborts-loop-state-preserved
region_has_aborts-loop-state-preserved t c = grind (arith, common_steps) steps 2000000

pub have_aborts-loop-region-preserved : goal.have_aborts-loop-region-preserved
have_aborts-loop-region-preserved t c = grind (arith, common_steps) steps 2000000

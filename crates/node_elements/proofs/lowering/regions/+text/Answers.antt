use Rattle.std.proofs.Common.{arith}
use Rattle.std.proofs.lemmas.Grind.{common_steps}
use Rattle.node_elements.proofs.lowering.regions.+text.Goals as goal

pub put_regions-loop-region-preserved : goal.put_regions-loop-region-preserved
put_regions-loop-region-preserved t c = grind (arith, common_steps) steps 2000000

pub put_body-returns-clause-origins : goal.put_body-returns-clause-origins
put_body-returns-clause-origins t c = grind (arith, common_steps) steps 2000000

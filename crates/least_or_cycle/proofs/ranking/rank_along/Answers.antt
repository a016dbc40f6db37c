use Rattle.std.proofs.lemmas.Grind.{common_steps}
use Rattle.std.proofs.Common.{arith}
use Rattle.least_or_cycle.proofs.ranking.rank_along.Goals as goal

pub loop-node-preserved : goal.loop-node-preserved
loop-node-preserved g c = grind (arith, common_steps) steps 2000000

use Rattle.std.proofs.lemmas.Grind.{common_steps}
use Rattle.std.proofs.Common.{arith}
use Rattle.least_or_cycle.proofs.ranking.rank_all.Goals as goal

pub loop-node-init : goal.loop-node-init
loop-node-init g c = grind (arith, common_steps) steps 2000000

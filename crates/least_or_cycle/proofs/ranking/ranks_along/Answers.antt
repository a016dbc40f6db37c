use Rattle.std.proofs.Common.{arith}
use Rattle.std.proofs.lemmas.Grind.{common_steps}
use Rattle.least_or_cycle.proofs.ranking.ranks_along.Goals as goal

pub returns : goal.returns
returns g c = grind (arith, common_steps) steps 2000000

pub rank_along-requires-clause-ranks : goal.rank_along-requires-clause-ranks
rank_along-requires-clause-ranks g c = grind (arith, common_steps) steps 2000000

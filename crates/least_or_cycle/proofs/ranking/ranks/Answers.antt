use Rattle.std.proofs.Common.{arith}
use Rattle.std.proofs.lemmas.Grind.{common_steps, elements}
use Rattle.least_or_cycle.proofs.ranking.ranks.Goals as goal

pub returns-clause-long : goal.returns-clause-long
returns-clause-long g c = grind (arith, elements) steps 2000000

pub returns-clause-ranks : goal.returns-clause-ranks
returns-clause-ranks g c = grind (arith, common_steps) steps 2000000

pub returns-clause-complete : goal.returns-clause-complete
returns-clause-complete g c = grind (arith, common_steps) steps 2000000

pub complete-requires-clause-ranks : goal.complete-requires-clause-ranks
complete-requires-clause-ranks g c = grind (arith, common_steps) steps 2000000

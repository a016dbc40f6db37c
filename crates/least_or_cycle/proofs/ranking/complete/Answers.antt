use Rattle.std.proofs.Common.{arith}
use Rattle.std.proofs.lemmas.Grind.{elements}
use Rattle.least_or_cycle.proofs.ranking.complete.Goals as goal

pub returns-then-not-rank_all-clause-ranks : goal.returns-then-not-rank_all-clause-ranks
returns-then-not-rank_all-clause-ranks g c = grind (arith, elements) steps 2000000

pub returns-then-not-rank_all-clause-complete : goal.returns-then-not-rank_all-clause-complete
returns-then-not-rank_all-clause-complete g c = grind (arith, elements) steps 2000000

pub loop-count-preserved : goal.loop-count-preserved
loop-count-preserved g c = grind (arith, elements) steps 2000000

use Rattle.std.proofs.lemmas.Grind.{elements}
use Rattle.std.proofs.Common.{arith, rules}
use Rattle.worker_pool.proofs.one_tick.complete.Goals as goal

pub share-requires-clause-image : goal.share-requires-clause-image
share-requires-clause-image g c = grind (arith, elements) steps 2000000

pub returns-else-stretch : goal.returns-else-stretch
returns-else-stretch g c = search rules

use Rattle.std.proofs.Common.{arith}
use Rattle.std.proofs.lemmas.Grind.{common_steps}
use Rattle.worker_pool.proofs.settling.settle.Goals as goal

pub returns-clause-image : goal.returns-clause-image
returns-clause-image g c = grind (arith, common_steps) steps 2000000

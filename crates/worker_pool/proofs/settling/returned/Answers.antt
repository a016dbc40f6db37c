use Rattle.std.proofs.Common.{arith}
use Rattle.std.proofs.lemmas.Grind.{common_steps}
use Rattle.worker_pool.proofs.settling.returned.Goals as goal

pub returns-then-is_same-clause-begun : goal.returns-then-is_same-clause-begun
returns-then-is_same-clause-begun g c = grind (arith, common_steps) steps 2000000

use Rattle.std.proofs.lemmas.Grind.{elements}
use Rattle.std.proofs.Common.{arith}
use Rattle.worker_pool.proofs.shared.Shared.next_pass.Goals as goal

pub returns-clause-left : goal.returns-clause-left
returns-clause-left g c = grind (arith, elements) steps 2000000

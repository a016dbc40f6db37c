use Rattle.std.proofs.Common.{arith}
use Rattle.std.proofs.lemmas.Grind.{elements}
use Rattle.worker_pool.proofs.team.Team.lead_on.Goals as goal

pub returns-clause-begun : goal.returns-clause-begun
returns-clause-begun g c = grind (arith, elements) steps 2000000

pub returns-clause-over : goal.returns-clause-over
returns-clause-over g c = grind (arith, elements) steps 2000000

pub returns-clause-refused : goal.returns-clause-refused
returns-clause-refused g c = grind (arith, elements) steps 2000000

pub returns-clause-same : goal.returns-clause-same
returns-clause-same g c = grind (arith, elements) steps 2000000

pub returns-clause-why : goal.returns-clause-why
returns-clause-why g c = grind (arith, elements) steps 2000000

use Rattle.std.proofs.Common.{arith}
use Rattle.std.proofs.lemmas.Grind.{elements}
use Rattle.worker_pool.proofs.team.Team.go_on.Goals as goal

pub returns-in_ok-complete_last-clause-ended : goal.returns-in_ok-complete_last-clause-ended
returns-in_ok-complete_last-clause-ended g c = grind (arith, elements) steps 2000000

pub returns-in_ok-complete_last-clause-refused : goal.returns-in_ok-complete_last-clause-refused
returns-in_ok-complete_last-clause-refused g c = grind (arith, elements) steps 2000000

pub returns-in_ok-complete_last-clause-same : goal.returns-in_ok-complete_last-clause-same
returns-in_ok-complete_last-clause-same g c = grind (arith, elements) steps 2000000

pub returns-in_ok-complete_last-clause-lost : goal.returns-in_ok-complete_last-clause-lost
returns-in_ok-complete_last-clause-lost g c = grind (arith, elements) steps 2000000

pub returns-else-branch-clause-ended : goal.returns-else-branch-clause-ended
returns-else-branch-clause-ended g c = grind (arith, elements) steps 2000000

pub returns-else-branch-clause-refused : goal.returns-else-branch-clause-refused
returns-else-branch-clause-refused g c = grind (arith, elements) steps 2000000

pub returns-else-branch-clause-same : goal.returns-else-branch-clause-same
returns-else-branch-clause-same g c = grind (arith, elements) steps 2000000

pub returns-else-branch-clause-lost : goal.returns-else-branch-clause-lost
returns-else-branch-clause-lost g c = grind (arith, elements) steps 2000000

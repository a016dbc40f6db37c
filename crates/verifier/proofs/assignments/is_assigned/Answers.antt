use Rattle.std.proofs.Common.{arith}
use Rattle.std.proofs.lemmas.Grind.{common_steps}
use Rattle.verifier.proofs.assignments.is_assigned.Goals as goal

pub returns-in-Assign : goal.returns-in-Assign
returns-in-Assign c = grind (arith, common_steps) steps 2000000

pub returns-in-Update : goal.returns-in-Update
returns-in-Update c = grind (arith, common_steps) steps 2000000

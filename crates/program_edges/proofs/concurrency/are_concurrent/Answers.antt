use Rattle.std.proofs.Common.{arith, rules}
use Rattle.std.proofs.lemmas.Grind.{common_steps}
use Rattle.program_edges.proofs.concurrency.are_concurrent.Goals as goal

pub returns-in_default-2 : goal.returns-in_default-2
returns-in_default-2 c = grind (arith, common_steps) steps 2000000

pub returns-in_default : goal.returns-in_default
returns-in_default c = grind (arith, common_steps) steps 2000000

pub returns-in-Some-Some : goal.returns-in-Some-Some
returns-in-Some-Some c = search rules

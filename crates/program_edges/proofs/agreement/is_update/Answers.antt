use Rattle.std.proofs.Common.{arith}
use Rattle.std.proofs.lemmas.Grind.{common_steps}
use Rattle.program_edges.proofs.agreement.is_update.Goals as goal

pub returns-in-Some-Update : goal.returns-in-Some-Update
returns-in-Some-Update c = grind (arith, common_steps) steps 2000000

pub returns-in_default : goal.returns-in_default
returns-in_default c = grind (arith, common_steps) steps 2000000

pub returns-in_default-2 : goal.returns-in_default-2
returns-in_default-2 c = grind (arith, common_steps) steps 2000000
